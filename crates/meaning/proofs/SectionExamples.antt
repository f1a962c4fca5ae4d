-- What the numbers of a tiny text mean, the sheet that it is, and which like it are none, computed from the definitions. Assumes nothing.
use Prim.Native.Nat.{ℕ}
use mathlib.Core.Path.{◌≡◌, refl}
use mathlib.Core.Bool.{true, false}
use mathlib.Core.List.{List, [], ◌∷◌, flatten}
use Rattle.sas.specs.Task.{Fact, always, Task}
use Rattle.sas.specs.Plan.{written as written_facts}
use Rattle.sheet.specs.Decode.{table}
use Rattle.sheet.specs.Layout.{first_edition}
use Rattle.sheet.specs.Between.Encode.{encode, sheet_of, parts, effects_part, action_part, body, pairs_of}
use Rattle.fields.specs.Between.Numbers.{any_value}
use Rattle.meaning.specs.Between.Sections.{meaning, ranges, state, goal, actions_from, action_at, facts_at, fact_at}
use Rattle.meaning.specs.Between.Order.{ordered, ordered_action, put_in, insert}
use Rattle.meaning.specs.Between.Writable.{writable, variables_fit, no_condition, actions_fit, action_fits, fit_in, known, has}

-- Two variables, of 2 and 3 values, both 0 at the start; the goal `wanted` at 1 and variable 0 at `value`; and two operators. The first has the prevail
-- condition `held` at 0, takes variable 0 from 0 to 1, and costs `cost`; the second takes variable 1 from any value to 2, and costs 5.
abbrev tiny : (metric wanted value held cost : ℕ) → List ℕ
tiny metric wanted value held cost =
    metric ∷ 2 ∷ 2 ∷ 3 ∷ 0 ∷ 0 ∷ 2 ∷ wanted ∷ 1 ∷ 0 ∷ value ∷ 2
    ∷ 1 ∷ held ∷ 0 ∷ 1 ∷ 0 ∷ 0 ∷ 0 ∷ 1 ∷ cost
    ∷ 0 ∷ 1 ∷ 0 ∷ 1 ∷ any_value ∷ 2 ∷ 5 ∷ []

abbrev at : ℕ → ℕ → Fact
at variable value = record { variable = variable; value = value }

abbrev task : ℕ → ℕ → Task
task first second =
    record {
      domains = 2 ∷ 3 ∷ [];
      actions =
          record { precondition = at 1 0 ∷ at 0 0 ∷ []; effects = always (at 0 1) ∷ []; cost = first }
          ∷ record { precondition = []; effects = always (at 1 2) ∷ []; cost = second } ∷ [];
      initial = 0 ∷ 0 ∷ [];
      goal = at 1 1 ∷ at 0 1 ∷ [];
    }

-- with metric 1 the costs count, with metric 0 each is 1; an old value of −1 is no precondition
pub meanings : (meaning (tiny 1 1 1 1 3) ≡ task 3 5) × (meaning (tiny 0 1 1 1 3) ≡ task 1 1)
unfolding meaning ranges state goal actions_from action_at facts_at fact_at table
meanings = (refl, refl)

-- the first four words; the pairs; the ranges, the starting values, the goal and the operators, each group of facts in rising order
pub sheet : encode first_edition (ordered (meaning (tiny 1 1 1 1 3)))
    ≡ 1 ∷ 2 ∷ 2 ∷ 28 ∷ 14 ∷ 2 ∷ 16 ∷ 2 ∷ 18 ∷ 2 ∷ 20 ∷ 5 ∷ 25 ∷ 3
    ∷ 2 ∷ 3 ∷ 0 ∷ 0 ∷ 1 ∷ 257 ∷ 3 ∷ 2 ∷ 0 ∷ 256 ∷ 1 ∷ 5 ∷ 0 ∷ 258 ∷ []
unfolding meaning ranges state goal actions_from action_at facts_at fact_at table encode sheet_of parts effects_part action_part body pairs_of flatten
    ordered ordered_action written_facts put_in insert
sheet = refl

-- in turn: the text above; variable 0 at 256 in the goal, which has the word of variable 1 at 0; variable 0 twice in the goal; a prevail condition and an old
-- value alike, of one variable; a cost above the limit, which with metric 0 does not count
pub written : (writable (meaning (tiny 1 1 1 1 3)) ≡ true)
    × (writable (meaning (tiny 1 1 256 1 3)) ≡ false)
    × (writable (meaning (tiny 1 0 1 1 3)) ≡ false)
    × (writable (meaning (tiny 1 1 1 0 3)) ≡ false)
    × (writable (meaning (tiny 1 1 1 1 1000001)) ≡ false)
    × (writable (meaning (tiny 0 1 1 1 1000001)) ≡ true)
unfolding meaning ranges state goal actions_from action_at facts_at fact_at table writable written_facts variables_fit no_condition actions_fit action_fits fit_in known has insert
    encode sheet_of parts effects_part action_part body pairs_of flatten ordered ordered_action put_in
written = (refl, refl, refl, refl, refl, refl)
