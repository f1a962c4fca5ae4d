-- The minimal reduction, computed. Assumes nothing.
use Rattle.std.specs.Prelude.{Bool, true, false, List, [], ◌∷◌}
use Rattle.std.proofs.Math.Option.{Option, none, some, map, get_or}
use Rattle.sas.specs.Task.{State, Action}
use Rattle.sas.specs.Plan.{applicable, apply}
use Rattle.reduction.specs.Reduction.{Reduction, whole}
use Rattle.reduction.specs.Between.Elimination.{better}

-- what is found behind a first step, with what is decided of that step: struck where b is false
abbrev pub begun_with : Bool → Option Reduction → Option Reduction
begun_with b behind = map (λ m. b ∷ m) behind

-- computed for any test at the end: of the two valid reductions that win when the first step is struck and
-- when it is kept, the lower, and the one that strikes it where they are equal. That it is the minimal reduction of
-- every list that is valid, and the only one, are `minimal_found` and `minimal_once` of proofs/minimal/MinimalTheorem.
unfoldable pub found : (State → Bool) → State → List Action → Option Reduction
found ends s [] = elim (ends s) [ true ↦ some [] | false ↦ none ]
found ends s (a ∷ p) =
    better (a ∷ p) (begun_with false (found ends s p))
    (elim (applicable s a) [ true ↦ begun_with true (found ends (apply s a) p) | false ↦ none ])

unfoldable pub minimal : (State → Bool) → State → List Action → Reduction
minimal ends s p = get_or (found ends s p) (whole p)
