-- The SAS+ task that the words of an accepted job sheet mean (document 01, "The job sheet"). Assumes nothing.
use Rattle.std.specs.Prelude.{ℕ, zero, suc, ◌+◌, ◌-◌, ◌/◌, ◌%◌, Bool, true, false, cond, List, [], ◌∷◌, map, ltb}
use Rattle.sas.specs.Task.{Fact, Assignment, State, Effect, always, Action, Task}
use Rattle.sheet.specs.Limits.{limits}
use Rattle.sheet.specs.Layout.{word, variables, actions, domain, start, goal_start, goal_end, cost_word}
use Rattle.sheet.specs.Layout.{precondition_start, effect_start, effect_end, has_conditions, effect_fact}

-- what f gives at the n numbers from i on
unfoldable pub table {ℓ} : {A : Type ℓ} → (ℕ → A) → ℕ → ℕ → List A
table f i zero = []
table f i (suc n) = f i ∷ table f (i + 1) n

-- a fact is one word, variable × 256 + value
abbrev pub fact_of : ℕ → Fact
fact_of x = record { variable = x / limits.values; value = x % limits.values }

-- the facts that stand from word i up to, not including, word end
unfoldable pub facts : List ℕ → ℕ → ℕ → Assignment
facts w i end = table (λ j. fact_of (word w j)) i (end - i)

unfoldable pub domains : List ℕ → List ℕ
domains w = table (domain w) 0 (variables w)

unfoldable pub initial : List ℕ → State
initial w = table (start w) 0 (variables w)

unfoldable pub goal : List ℕ → Assignment
goal w = facts w (goal_start w) (goal_end w)

-- the words at which effects of edition 2 stand, from word i up to word end, of at most n: each stands behind the fact
-- of the one before it
unfoldable pub effect_words : List ℕ → ℕ → ℕ → ℕ → List ℕ
effect_words w end i zero = []
effect_words w end i (suc n) =
    elim (ltb i end) [ true ↦ i ∷ effect_words w end (effect_fact w end i + 1) n | false ↦ [] ]

-- the effect of edition 2 at word i: the facts of its condition stand between their number and its own fact
unfoldable pub effect_at : List ℕ → ℕ → ℕ → Effect
effect_at w end i =
    record {
      condition = facts w (i + 1) (effect_fact w end i);
      fact = fact_of (word w (effect_fact w end i));
    }

-- the effects that stand from word i up to word end: with conditions, or a fact each
unfoldable pub effects : Bool → List ℕ → ℕ → ℕ → List Effect
effects conditional w i end =
    cond conditional (map (effect_at w end) (effect_words w end i (end - i))) (map always (facts w i end))

unfoldable pub action : List ℕ → ℕ → Action
action w a =
    record {
      precondition = facts w (precondition_start w a) (effect_start w a);
      effects = effects (has_conditions w) w (effect_start w a) (effect_end w a);
      cost = cost_word w a;
    }

unfoldable pub task : List ℕ → Task
task w = record { domains = domains w; actions = table (action w) 0 (actions w); initial = initial w; goal = goal w }
