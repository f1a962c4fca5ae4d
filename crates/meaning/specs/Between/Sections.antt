-- The SAS+ task that the numbers of a planner's text are, apart from any words (document 02, C-11). The numbers stand
-- in the order of the text: the metric; how many variables, the range of each, the starting value of each; how many
-- goal facts, each `variable value`; how many operators, and of each how many prevail conditions, each `variable
-- value`, how many effects, each `conditions variable old new`, and the cost. A number past the last reads as 0; of a
-- text that has the form none is. Assumes nothing.
use Rattle.std.specs.Prelude.{ℕ, zero, suc, ◌+◌, ◌*◌, cond, List, [], ◌∷◌, ◌++◌, map, get_or, eqb}
use Rattle.sas.specs.Task.{Assignment, State, always, Action, Task}
use Rattle.sheet.specs.Decode.{table}
use Rattle.fields.specs.Between.Numbers.{any_value}

abbrev pub number_at : List ℕ → ℕ → ℕ
number_at x i = get_or x i 0

-- the fact whose variable is number i and whose value is number j: an old value of −1, for "any", is none
unfoldable pub fact_at : List ℕ → ℕ → ℕ → Assignment
fact_at x i j =
    cond (eqb (number_at x j) any_value) [] (record { variable = number_at x i; value = number_at x j } ∷ [])

-- the facts of n lines of `wide` numbers each, the first variable being number i, and each value `on` numbers behind it
unfoldable pub facts_at : List ℕ → ℕ → ℕ → ℕ → ℕ → Assignment
facts_at x wide on i zero = []
facts_at x wide on i (suc n) = fact_at x i (i + on) ++ facts_at x wide on (i + wide) n

-- the numbers of a fact, and of an effect
abbrev pub fact_wide : ℕ
fact_wide = 2

abbrev pub effect_wide : ℕ
effect_wide = 4

abbrev pub metric : List ℕ → ℕ
metric x = number_at x 0

abbrev pub variables : List ℕ → ℕ
variables x = number_at x 1

abbrev pub range_of : List ℕ → ℕ → ℕ
range_of x v = number_at x (2 + v)

abbrev pub starting : List ℕ → ℕ → ℕ
starting x v = number_at x (2 + variables x + v)

unfoldable pub ranges : List ℕ → List ℕ
ranges x = table (range_of x) 0 (variables x)

unfoldable pub state : List ℕ → State
state x = table (starting x) 0 (variables x)

abbrev pub goal_at : List ℕ → ℕ
goal_at x = 2 + 2 * variables x

unfoldable pub goal : List ℕ → Assignment
goal x = facts_at x fact_wide 1 (goal_at x + 1) (number_at x (goal_at x))

abbrev pub operators_at : List ℕ → ℕ
operators_at x = goal_at x + 1 + fact_wide * number_at x (goal_at x)

-- of the operator whose numbers begin at number i: its prevail conditions, its effects, its cost, and where it ends
abbrev pub effects_at : List ℕ → ℕ → ℕ
effects_at x i = i + 1 + fact_wide * number_at x i

abbrev pub cost_at : List ℕ → ℕ → ℕ
cost_at x i = effects_at x i + 1 + effect_wide * number_at x (effects_at x i)

abbrev pub operator_end : List ℕ → ℕ → ℕ
operator_end x i = cost_at x i + 1

abbrev pub prevail : List ℕ → ℕ → Assignment
prevail x i = facts_at x fact_wide 1 (i + 1) (number_at x i)

-- an effect's variable stands behind the number of its conditions, which is 0; then the old value, and the new one
abbrev pub old_values : List ℕ → ℕ → Assignment
old_values x i = facts_at x effect_wide 1 (effects_at x i + 2) (number_at x (effects_at x i))

abbrev pub new_values : List ℕ → ℕ → Assignment
new_values x i = facts_at x effect_wide 2 (effects_at x i + 2) (number_at x (effects_at x i))

-- "prevail conditions and old values become preconditions; metric 0 makes every price 1"
unfoldable pub action_at : List ℕ → ℕ → Action
action_at x i =
    record {
      precondition = prevail x i ++ old_values x i;
      effects = map always (new_values x i);
      cost = cond (eqb (metric x) 0) 1 (number_at x (cost_at x i));
    }

unfoldable pub actions_from : List ℕ → ℕ → ℕ → List Action
actions_from x i zero = []
actions_from x i (suc n) = action_at x i ∷ actions_from x (operator_end x i) n

unfoldable pub meaning : List ℕ → Task
meaning x =
    record {
      domains = ranges x;
      actions = actions_from x (operators_at x + 1) (number_at x (operators_at x));
      initial = state x;
      goal = goal x;
    }
