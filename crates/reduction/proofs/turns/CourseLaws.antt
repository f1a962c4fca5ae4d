-- A search that passes over flagged steps stays on course: what is wanted from a visit's index on holds there, and what is kept so far tells which facts hold. So a
-- flagged step can be done and is passed without a test, many of them at once, and at the end of the plan the goal holds. A kept step unsets nothing that is
-- wanted behind it, for it would unset that in the lodged plan too, which is valid; a struck one lacks nothing, by its test. By the laws of wanted facts, along
-- the lodged plan's own run; what plain actions leave is told by what they write. Assumes nothing.
use Prim.Native.Nat.{ℕ, zero, suc, ◌+◌, ◌-◌, ◌≤◌, ◌<◌}
use native.Mathlib.Numerals.{add-one}
use native.Mathlib.Omega.{arith}
use mathlib.Core.Path.{◌≡◌, refl, sym, ◌∙◌, ap}
use mathlib.Core.Bool.{Bool, true, false, true≢false, not, ◌&&◌}
use mathlib.Core.List.{List, ◌∷◌}
use lib.ListN.{length, get_or, set, drop, get_or-replicate, drop_of_length-le}
use lib.Seq.{drop-cons, drop-drop, get_or-set_same, set-get_or, take-set-le}
use borrow.Author.Tests.{not-true}
use Rattle.sas.specs.Task.{Fact, Assignment, State, Action, idle}
use Rattle.sas.specs.Plan.{holds, applicable, apply, needed, written, needs}
use Rattle.sas.specs.Between.WellFormed.{Plain}
use Rattle.sas.proofs.FactLaws.{all_satisfied}
use Rattle.sas.proofs.WellFormedLaws.{ActionsPlain}
use Rattle.sas.proofs.ActionLaws.{applicable_needed, apply_length}
use Rattle.reduction.specs.Reduction.{Reduction, whole, valid_for, ValidFor, meets, Before}
use Rattle.reduction.specs.Landmark.{step}
use Rattle.reduction.specs.Between.Wanted.{has, wanted}
use Rattle.reduction.specs.Between.Search.{Visit, Tests, struck, done, handed, first_visit}
use Rattle.reduction.specs.Between.Sound.{FlagsKept}
use Rattle.reduction.specs.Between.Cuts.{wanted_held, tests}
use Rattle.reduction.specs.Between.Course.{held_after, held, OnCourse}
use Rattle.reduction.proofs.ReductionLaws.{whole_valid, contains_behind, alike_behind}
use Rattle.reduction.proofs.MemberLaws.{has_member, member_has, has_no_member}
use Rattle.sas.proofs.SomeLaws.{found}
use Rattle.reduction.proofs.turns.WantedLaws.{wanted_holds, wanted_before, first_wanted}
use Rattle.reduction.proofs.turns.HeldLaws.{run_length, each_step, apply_held, held_more, held_kept, held_struck, held_alike}
use Rattle.reduction.proofs.minimal.BeforeLaws.{before_first, rest_valid, before_next}
use Rattle.reduction.proofs.turns.TurnLaws.{turns, strike_flagged, keep_goes_on}
use Rattle.reduction.proofs.turns.SearchTheorem.{struck_visited, done_visited}

-- a visit moved on to an index and a state, with nothing decided between
abbrev pub moved : Visit → ℕ → State → Visit
moved v j t = record { index = j; state = t; so_far = v.so_far; best = v.best }

-- the visit behind a flagged step, which is kept so far already
abbrev pub past_flagged : List Action → Visit → Visit
past_flagged p v = moved v (v.index + 1) (apply v.state (step p v.index))

-- both turns at a visit do what they do at one on course that is moved on to index j
pub record MovesTo (goal : Assignment) (s : State) (p : List Action) (flags : Reduction) (v : Visit) (j : ℕ) : Type 0 where
  pub state : State
  pub turned : turns (tests goal p flags) p (drop v.index p) v ≡ turns (tests goal p flags) p (drop j p) (moved v j state)
  pub course : OnCourse goal s p flags (moved v j state)

module _ (goal : Assignment) (s : State) (p : List Action) (flags : Reduction) (domains : List ℕ) (plain : ActionsPlain domains p)
    (sized : length s ≡ length domains) (valid : valid_for (meets goal) s p ≡ true) (flagged : FlagsKept (meets goal) s p flags)
    (fits : length flags ≡ length p) where
  -- the lodged plan, of which nothing is struck, leads on by each of its steps
  lodged_next : {u : State} (i : ℕ) → i < length p → Before s p (whole p) i u → Before s p (whole p) (suc i) (apply u (step p i))
  lodged_next i inside reached =
      let all : ValidFor (meets goal) s p (whole p) = whole_valid p valid in
      (before_next s goal p (whole p) i all.fits all.valid_left (omega (arith, all.fits)) reached).kept_next
      (get_or-replicate (length p) i true false inside)

  -- and so to a state before each index
  lodged_before : (i : ℕ) → i ≤ length p → (u : State) × Before s p (whole p) i u
  lodged_before zero inside = (s, before_first s p (whole p))
  lodged_before (suc i) inside = let (u, reached) = lodged_before i (omega arith) in (apply u (step p i), lodged_next i inside reached)

  -- where what is wanted holds
  lodged_supplied : {u : State} (i : ℕ) → Before s p (whole p) i u → (f : Fact) → wanted goal (drop i p) (drop i flags) f ≡ true → holds u f ≡ true
  lodged_supplied {u} i reached f want =
      let all : ValidFor (meets goal) s p (whole p) = whole_valid p valid in
      let rest : ValidFor (meets goal) u (drop i p) (drop i (whole p)) = rest_valid s u p (whole p) i reached all in
      wanted_holds (meets goal) goal (λ t met. met) u (drop i p) (drop i (whole p)) (drop i flags) f rest.fits rest.valid_left
      (contains_behind (whole p) flags i (flagged (whole p) all)) want

  -- the first visit is on course
  pub course_begins : OnCourse goal s p flags (first_visit (tests goal p flags) s p)
  unfolding held
  course_begins =
      record {
        visited = record { fits = fits; reached = before_first s p flags; to_come = refl };
        supplied = lodged_supplied 0 (before_first s p (whole p));
        told = λ f. refl;
        sized = refl;
      }

  module _ {v : Visit} where
    -- a visit on course stays so with another best
    pub course_handed : (b : Reduction) → OnCourse goal s p flags v → OnCourse goal s p flags (handed v b)
    course_handed b course =
        record {
          visited = record { fits = course.visited.fits; reached = course.visited.reached; to_come = course.visited.to_come };
          supplied = course.supplied;
          told = course.told;
          sized = course.sized;
        }

    -- at the end of the plan the goal holds
    pub course_ends : v.index ≡ length p → OnCourse goal s p flags v → (tests goal p flags).ends v.state ≡ true
    unfolding wanted
    course_ends over course =
        all_satisfied v.state goal (λ f m. course.supplied f (rw (drop_of_length-le p {i = v.index} (omega arith)) (member_has m)))

    module _ (inside : v.index < length p) where
      -- so far the step is kept where it is flagged
      kept_flag : OnCourse goal s p flags v → get_or v.so_far v.index false ≡ get_or flags v.index false
      kept_flag course = alike_behind v.so_far flags v.index v.index course.visited.to_come (omega arith)

      -- what is wanted behind a step that does not write it is wanted before it, and holds there
      supplied_here : OnCourse goal s p flags v → (f : Fact) → has (written (step p v.index)) f ≡ false
          → wanted goal (drop (v.index + 1) p) (drop (v.index + 1) flags) f ≡ true → holds v.state f ≡ true
      supplied_here course f unwritten want =
          course.supplied f
          (rw (drop-cons p v.index idle inside)
          (wanted_before goal (step p v.index) (drop (suc v.index) p) (drop v.index flags) f (has_no_member _ f unwritten)
          (rw (drop-drop 1 v.index flags, ← add-one v.index) want)))

      -- where each fact that a step may write and that is wanted behind it holds, to strike it stays on course
      pub course_struck : get_or flags v.index false ≡ false → wanted_held goal p flags v ≡ true → OnCourse goal s p flags v
          → OnCourse goal s p flags (struck v)
      unfolding wanted_held
      course_struck down tested course =
          record {
            visited = struck_visited (tests goal p flags) s p v inside course.visited down;
            supplied = λ f want. by_case f want (has (written (step p v.index)) f) (holds v.state f) refl refl;
            told = λ f. course.told f ∙ rw add-one (sym (held_struck s p v.so_far f v.index (kept_flag course ∙ down)));
            sized = course.sized;
          }
        where
          wants : Fact → Bool
          wants f = wanted goal (drop (v.index + 1) p) (drop (v.index + 1) flags) f

          by_case : (f : Fact) → wants f ≡ true → (x y : Bool) → has (written (step p v.index)) f ≡ x → holds v.state f ≡ y → holds v.state f ≡ true
          by_case f want x true e h = h
          by_case f want false false e h = supplied_here course f e want
          by_case f want true false e h =
              let lacking : (wants f && not (holds v.state f)) ≡ true = rw (want, h) in
              absurd (true≢false (sym (found (λ g. wants g && not (holds v.state g)) (has_member _ f e) lacking) ∙ not-true _ tested))

      -- and so does to keep a step that can be done
      pub course_done : applicable v.state (step p v.index) ≡ true → OnCourse goal s p flags v → OnCourse goal s p flags (done (step p v.index) v)
      unfolding held_after
      course_done able course =
          record {
            visited = done_visited (tests goal p flags) s p v inside course.visited able;
            supplied = λ f want. by_case f want (has (written here) f) refl;
            told = told;
            sized = apply_length v.state here ∙ course.sized;
          }
        where
          here : Action
          here = step p v.index

          here_plain : Plain domains here
          here_plain = each_step plain v.index inside

          after : (f : Fact) → holds (apply v.state here) f ≡ held_after here f (holds v.state f)
          after f = apply_held here f v.state here_plain (course.sized ∙ sized)

          lodged_after : (f : Fact) → wanted goal (drop (v.index + 1) p) (drop (v.index + 1) flags) f ≡ true
              → (u : State) × (held_after here f (holds u f) ≡ true)
          lodged_after f want =
              let (u, reached) = lodged_before v.index (omega arith) in
              let there = lodged_supplied (suc v.index) (lodged_next v.index inside reached) f (rw (← add-one v.index) want) in
              (u, sym (apply_held here f u here_plain (run_length s _ reached ∙ sized)) ∙ there)

          by_case : (f : Fact) → wanted goal (drop (v.index + 1) p) (drop (v.index + 1) flags) f ≡ true → (b : Bool) → has (written here) f ≡ b
              → holds (apply v.state here) f ≡ true
          by_case f want true e = after f ∙ rw e
          by_case f want false e =
              let (u, held_there) = lodged_after f want in
              after f ∙ held_more here f (λ there. supplied_here course f e want) held_there

          so_far : Reduction
          so_far = set v.so_far v.index true

          told : (f : Fact) → holds (apply v.state here) f ≡ held s p so_far f (v.index + 1)
          told f =
              let alike = held_alike s p v.so_far so_far f v.index (sym (take-set-le v.index v.so_far v.index true (omega arith))) in
              let keeps = get_or-set_same v.so_far v.index true false (omega (arith, course.visited.fits)) in
              after f ∙ ap (held_after here f) (course.told f ∙ alike) ∙ rw add-one (sym (held_kept s p so_far f v.index keeps))

      -- what a flagged step needs holds, so it can be done
      pub course_able : get_or flags v.index false ≡ true → OnCourse goal s p flags v → applicable v.state (step p v.index) ≡ true
      course_able up course = applicable_needed v.state (step p v.index) ∙ all_satisfied v.state (needed (step p v.index)) needs_hold
        where
          needs_hold : (f : Fact) → needs (step p v.index) f → holds v.state f ≡ true
          needs_hold f need =
              course.supplied f
              (rw (drop-cons p v.index idle inside, drop-cons flags v.index false (omega arith))
              (first_wanted goal _ _ f up need))

      -- a flagged step is passed without a test
      pub course_passes : get_or flags v.index false ≡ true → OnCourse goal s p flags v
          → (turns (tests goal p flags) p (drop v.index p) v ≡ turns (tests goal p flags) p (drop (v.index + 1) p) (past_flagged p v))
          × OnCourse goal s p flags (past_flagged p v)
      course_passes up course = (
        rw (steps, strike_flagged T p here later v up) (rw kept_already at (keep_goes_on T p here later v able (rw up))),
        rw kept_already at (course_done able course),
      )
        where
          T : Tests
          T = tests goal p flags

          here : Action
          here = step p v.index

          later : List Action
          later = drop (v.index + 1) p

          steps : drop v.index p ≡ here ∷ later
          steps = rw add-one (drop-cons p v.index idle inside)

          able : applicable v.state here ≡ true
          able = course_able up course

          kept_already : set v.so_far v.index true ≡ v.so_far
          kept_already = ap (set v.so_far v.index) (sym (kept_flag course ∙ up)) ∙ set-get_or v.so_far v.index false

  -- flagged steps are passed one after another
  moves_along : {v : Visit} (n j : ℕ) → v.index + n ≡ j → j ≤ length p → ((k : ℕ) → v.index ≤ k → k < j → get_or flags k false ≡ true)
      → OnCourse goal s p flags v → MovesTo goal s p flags v j
  moves_along {v} zero j there inside up course =
      let same : v.index ≡ j = omega arith in
      rw (← same) (record { state = v.state; turned = refl; course = course_handed v.best course })
  moves_along {v} (suc n) j there inside up course =
      let (turned, next) = course_passes (omega arith) (up v.index (omega arith) (omega arith)) course in
      let rest : MovesTo goal s p flags (past_flagged p v) j = moves_along {v = past_flagged p v} n j (omega arith) inside (λ k from. up k (omega arith)) next in
      record { state = rest.state; turned = turned ∙ rest.turned; course = rest.course }

  -- and so a run of them at once
  pub course_runs : {v : Visit} (j : ℕ) → v.index ≤ j → j ≤ length p → ((k : ℕ) → v.index ≤ k → k < j → get_or flags k false ≡ true)
      → OnCourse goal s p flags v → MovesTo goal s p flags v j
  course_runs {v} j from = moves_along (j - v.index) j (omega arith)
