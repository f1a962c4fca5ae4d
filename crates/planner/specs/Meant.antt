-- What a planner's text means (document 02, C-11): the SAS+ task, and which line no sheet can say. Assumes nothing.
use Rattle.std.specs.Prelude.{ℕ, ◌+◌, Bool, cond, length, None, Some}
use Rattle.std.proofs.Math.Option.{none, some}
use mathlib.Core.List.{List, [], ◌∷◌, ◌++◌, map, flatten}
use Rattle.refusal.specs.Place.{Place}
use Rattle.sas.specs.Task.{Fact, Assignment, Action, Task}
use Rattle.sas.specs.Task as sas
use Rattle.planner.specs.Text.{Change, Effect, Operator, Text}
use Rattle.planner.specs.Printed.{Line, lines}

-- the fact that a change asks for, and the one that it makes true
abbrev pub old_fact : Change → Assignment
old_fact c = elim c.old [ none ↦ [] | some v ↦ record { variable = c.variable; value = v } ∷ [] ]

abbrev pub new_fact : Change → Fact
new_fact c = record { variable = c.variable; value = c.new }

-- an effect, with its conditions
abbrev pub meant_effect : Effect → sas.Effect
meant_effect e = record { condition = e.conditions; fact = new_fact e.change }

-- "prevail conditions and old values become preconditions; metric 0 makes every price 1"
abbrev pub meant_action : Bool → Operator → Action
meant_action metric o =
    record {
      precondition = o.prevail ++ flatten (map (λ e. old_fact e.change) o.effects);
      effects = map meant_effect o.effects;
      cost = cond metric o.cost 1;
    }

unfoldable pub meant : Text → Task
meant t =
    record {
      domains = map (λ v. length v.values) t.variables;
      actions = map (meant_action t.metric) t.operators;
      initial = t.state;
      goal = t.goal;
    }

-- 14: the first line that no sheet can say; the first of these lines is line n
unfoldable pub first_barred : ℕ → List Line → Place
first_barred n [] = None
first_barred n (l ∷ ls) = cond l.barred (Some n) (first_barred (n + 1) ls)

abbrev pub unsayable : Text → Place
unsayable t = first_barred 1 (lines t)
