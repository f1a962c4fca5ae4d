-- The tables of a walk by the cases of the code: what a fact's variable was written with, the support of a fact, a fact and some facts written, and
-- the words of the variables behind the start step. What the code calls is a variable here, with what is known of it as a premise. Each is by the definitions'
-- own cases, with no induction. Assumes nothing.
use Prim.Native.Nat.{ℕ, ◌+◌, ◌*◌, ◌/◌, ◌%◌, ◌≤◌, ◌<◌}
use native.Mathlib.Numerals.{add-one}
use native.Mathlib.Omega.{arith}
use mathlib.Core.Path.{◌≡◌, refl, sym, ◌∙◌, ap}
use mathlib.Core.Bool.{Bool, true, false}
use mathlib.Core.List.{List, [], ◌∷◌}
use lib.ListN.{length, get_or, set, length-set, replicate, length-replicate}
use borrow.Author.Tests.{eq-eqb, ne_eqb, lt-ltb, le-ltb}
use Rattle.sas.specs.Task.{Assignment, Effect}
use Rattle.sas.specs.Plan.{unconditional}
use Rattle.sheet.specs.Limits.{limits}
use Rattle.sheet.specs.Decode.{fact_of}
use Rattle.sheet.proofs.FactWords.{word_of_fact}
use Rattle.trace.specs.Between.Traces.{trace_start, latest_start, until_at, supporting, trace_wrote, traces_wrote, latest_wrote, latest_each, tables, wrote_each, started}

-- the words of the variable of a fact
abbrev row : ℕ → ℕ
row x = latest_start (x / limits.values)

module _ (latest : List ℕ) (x : ℕ) where
  -- the last marked writer of its variable wrote this fact
  pub until_same : (has r : ℕ) → has ≡ get_or latest (row x) 0 → has ≡ x → r ≡ get_or latest (row x + 2) 0 → r ≡ until_at latest x
  unfolding until_at
  until_same has r read same is = rw (eq-eqb (get_or latest (row x) 0) x (sym read ∙ same)) is

  -- it wrote another, or there is none
  pub until_other : (has r : ℕ) → has ≡ get_or latest (row x) 0 → (has ≡ x → ⊥) → r ≡ get_or latest (row x + 1) 0 → r ≡ until_at latest x
  unfolding until_at
  until_other has r read other is = rw (ne_eqb (get_or latest (row x) 0) x (λ same. other (read ∙ same))) is

module _ (last until j : ℕ) where
  -- another value was written since the last writer
  pub supporting_since : last < until → j ≡ supporting last until j
  unfolding supporting
  supporting_since since = rw (lt-ltb last until since)

  -- none was
  pub supporting_none : until ≤ last → 0 ≡ supporting last until j
  unfolding supporting
  supporting_none none = rw (le-ltb last until none)

module _ (latest traces : List ℕ) (j x last : ℕ) (reads : last ≡ get_or traces (trace_start x) 0) where
  -- a fact that the step has written already stays
  pub wrote_already : last ≡ j → traces ≡ trace_wrote j latest x traces
  unfolding trace_wrote
  wrote_already same = rw (eq-eqb (get_or traces (trace_start x) 0) j (sym reads ∙ same))

  -- one that it has not gets its support and its writer
  pub wrote_new : (last ≡ j → ⊥) → (seen s : ℕ) (one two : List ℕ) → seen ≡ until_at latest x → s ≡ supporting last seen j → one ≡ set traces (trace_start x + 1) s
      → two ≡ set one (trace_start x) j → two ≡ trace_wrote j latest x traces
  unfolding trace_wrote
  wrote_new other seen s one two sees supports first second =
      rw (ne_eqb (get_or traces (trace_start x) 0) j (λ same. other (reads ∙ same)), second, first, supports, reads, sees)

-- a marked step writes the words of its variable
pub latest_put : (latest : List ℕ) (j x seen : ℕ) (one two three : List ℕ) → seen ≡ until_at latest x → one ≡ set latest (row x) x → two ≡ set one (row x + 1) (j + 1)
    → three ≡ set two (row x + 2) seen → three ≡ latest_wrote j x latest
unfolding latest_wrote
latest_put latest j x seen one two three sees first second third = rw (third, second, first, sees)

module _ (j : ℕ) where
  -- the supports and writers of the facts that the step at position j writes: of none, and of the first and the others
  module _ (latest l : List ℕ) (q : Assignment) where
    pub traces_none : q ≡ [] → traces_wrote j latest q l ≡ l
    unfolding traces_wrote
    traces_none none = rw none

    pub traces_first : (later : Assignment) (x : ℕ) → q ≡ fact_of x ∷ later → traces_wrote j latest q l ≡ traces_wrote j latest later (trace_wrote j latest x l)
    unfolding traces_wrote
    traces_first later x first = rw first (ap (λ y. traces_wrote j latest later (trace_wrote j latest y l)) (word_of_fact x))

  -- and the words of its variables: where no effect is left, and by whether the first has a condition q
  module _ (l : List ℕ) (es : List Effect) where
    pub latest_none : es ≡ [] → latest_each j (unconditional es) l ≡ l
    unfolding unconditional latest_each
    latest_none none = rw none

    module _ (q : Assignment) (x : ℕ) (later : List Effect) (first : es ≡ record { condition = q; fact = fact_of x } ∷ later) where
      pub latest_always : q ≡ [] → latest_each j (unconditional es) l ≡ latest_each j (unconditional later) (latest_wrote j x l)
      unfolding unconditional latest_each
      latest_always none = rw (first, none) (ap (λ y. latest_each j (unconditional later) (latest_wrote j y l)) (word_of_fact x))

      pub latest_not : (q ≡ [] → ⊥) → latest_each j (unconditional es) l ≡ latest_each j (unconditional later) l
      unfolding unconditional
      latest_not some = rw first (by_case q some)
        where
          by_case : (r : Assignment) → (r ≡ [] → ⊥)
              → latest_each j (unconditional (record { condition = r; fact = fact_of x } ∷ later)) l ≡ latest_each j (unconditional later) l
          by_case [] not_none = absurd (not_none refl)
          by_case (f ∷ r) not_none = refl

-- both, by whether the step is marked
module _ (j : ℕ) (marked : Bool) (q r : Assignment) (traces latest traces' : List ℕ) (notes : traces' ≡ traces_wrote j latest q traces) where
  pub wrote_marked : marked ≡ true → (latest' : List ℕ) → latest' ≡ latest_each j r latest → tables traces' latest' ≡ wrote_each j marked q r (tables traces latest)
  unfolding wrote_each
  wrote_marked up latest' marks = rw (up, notes, marks)

  pub wrote_unmarked : marked ≡ false → tables traces' latest ≡ wrote_each j marked q r (tables traces latest)
  unfolding wrote_each
  wrote_unmarked down = rw (down, notes)

-- the words of the first v variables are written
pub record Starting (values latest : List ℕ) (v : ℕ) : Type 0 where
  pub within : v ≤ limits.variables
  pub sized : length latest ≡ latest_start limits.variables
  pub whole : latest ≡ started values v

module _ (values : List ℕ) where
  -- none is
  pub starting_none : Starting values (replicate (latest_start limits.variables) 0) 0
  unfolding started
  starting_none = record { within = omega arith; sized = length-replicate {A = ℕ} (latest_start limits.variables) 0; whole = refl }

  module _ (latest : List ℕ) (v : ℕ) (so_far : Starting values latest v) where
    -- those of one more are
    pub starting_more : v < limits.variables
        → Starting values (set (set latest (latest_start v) (v * limits.values + get_or values v 0 % limits.values)) (latest_start v + 1) 1) (v + 1)
    unfolding started
    starting_more inside =
        record {
          within = omega arith;
          sized = rw (length-set, length-set) so_far.sized;
          whole = rw (add-one v, so_far.whole);
        }

    -- those of all are
    pub starting_all : limits.variables ≤ v → latest ≡ started values limits.variables
    starting_all all = let here : v ≡ limits.variables = omega (arith, so_far.within) in rw (← here) so_far.whole
