-- The landmarks of a plan as flags, computed round by round: a walk along the positions tells for each fact which step
-- supports it. That they are the marked steps of `Landmark` is `flagged_just_marked` of proofs/marks/LandmarkTheorem.
-- Assumes nothing.
use Rattle.std.specs.Prelude.{ℕ, zero, suc, Bool, true, false, cond, not, ◌&&◌, List, [], ◌∷◌, ◌++◌, length, get_or, take, drop, set, replicate, ltb, eqb}
use Rattle.sas.specs.Task.{Fact, Assignment, State, Action}
use Rattle.sas.specs.Plan.{written, written_always, needed}
use Rattle.reduction.specs.Reduction.{Reduction}
use Rattle.reduction.specs.Landmark.{step, framed}
use Rattle.reduction.specs.Between.Wanted.{has}
use Rattle.sas.specs.Conflict.{some_of}

-- of two facts the second gives the first one's variable another value
abbrev pub other_value : Fact → Fact → Bool
other_value f g = eqb g.variable f.variable && not (eqb g.value f.value)

-- a step writes another value to the variable of f, with no condition
unfoldable pub sets_other : Action → Fact → Bool
sets_other a f = some_of (other_value f) (written_always a)

-- what is known of a fact before a position: the position of its last writer; one more than that of the last marked
-- step that wrote another value to its variable; and its support, which is its last writer, if such a marked step
-- stands between that and the writer before. Each is 0 where there is none.
pub record Trace : Type 0 where
  pub last : ℕ
  pub until : ℕ
  pub support : ℕ

abbrev pub no_trace : Trace
no_trace = record { last = 0; until = 0; support = 0 }

-- the same behind the step at position j
unfoldable pub passed : Action → ℕ → Bool → Fact → Trace → Trace
passed a j marked f t =
    record {
      last = cond (has (written a) f) j t.last;
      until = cond (marked && sets_other a f) (suc j) t.until;
      support = cond (has (written a) f) (cond (ltb t.last t.until) j 0) t.support;
    }

-- before position j of the steps q, of which m has those that are marked
unfoldable pub trace : List Action → Reduction → Fact → ℕ → Trace
trace q m f zero = no_trace
trace q m f (suc j) = passed (step q j) j (get_or m j false) f (trace q m f j)

abbrev pub support : List Action → Reduction → ℕ → Fact → ℕ
support q m j f = (trace q m f j).support

-- the flags m with those that `at` gives for the facts of an assignment raised
unfoldable pub raised : (Fact → ℕ) → Assignment → Reduction → Reduction
raised at [] m = m
raised at (f ∷ e) m = raised at e (set m (at f) true)

-- the flags n with the supports of all that position j needs, where the marks are those of m
abbrev pub supported : List Action → Reduction → ℕ → Reduction → Reduction
supported q m j n = raised (support q m j) (needed (step q j)) n

-- m with the supports of what its positions before j need
unfoldable pub round_to : List Action → Reduction → ℕ → Reduction
round_to q m zero = m
round_to q m (suc j) = cond (get_or m j false) (supported q m j (round_to q m j)) (round_to q m j)

-- one round more
abbrev pub round : List Action → Reduction → Reduction
round q m = round_to q m (length q)

unfoldable pub rounds : List Action → Reduction → ℕ → Reduction
rounds q m zero = m
rounds q m (suc r) = round q (rounds q m r)

-- start and end alone
abbrev pub ends_alone : List Action → Reduction
ends_alone p = true ∷ (replicate (length p) false ++ (true ∷ []))

-- the flags of a list's steps among those of all positions
abbrev pub of_steps : List Action → Reduction → Reduction
of_steps p m = take (length p) (drop 1 m)

-- as many rounds as there are steps
unfoldable pub landmarks : State → Assignment → List Action → Reduction
landmarks s goal p = of_steps p (rounds (framed s goal p) (ends_alone p) (length p))
