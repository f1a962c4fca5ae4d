-- Where a list fails to be valid and the state after it, as they are computed: `passes_exactly` and `plan_theorem` of
-- proofs/PlanTheorem say that they are those of SAS+. Assumes nothing.
use Rattle.std.specs.Prelude.{ℕ, ◌+◌, true, false, not, List, [], ◌∷◌, Some}
use Rattle.refusal.specs.Place.{Place}
use Rattle.refusal.specs.Place.{when}
use Rattle.sas.specs.Task.{Assignment, State, Action}
use Rattle.sas.specs.Plan.{satisfies, applicable, apply}

-- where a sequence of actions, the first at position i, fails to be valid from a state: at the first that can't be
-- done, or past the last where the goal does not hold there
unfoldable pub fault : Assignment → State → ℕ → List Action → Place
fault goal s i [] = when (not (satisfies s goal)) i
fault goal s i (a ∷ p) = elim (applicable s a) [ true ↦ fault goal (apply s a) (i + 1) p | false ↦ Some i ]

-- the state after each action has been applied in turn
unfoldable pub final : State → List Action → State
final s [] = s
final s (a ∷ p) = final (apply s a) p
