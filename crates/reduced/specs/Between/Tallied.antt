-- The tally of a reduction as the code counts it. Assumes nothing.
use Rattle.std.specs.Prelude.{ℕ, List, map}
use Rattle.tally.specs.declared.Tally.{Tally}
use Rattle.tally.specs.Tally.{nothing, after}
use Rattle.sheet.specs.Layout.{cost_word}
use Rattle.reduction.specs.Reduction.{Reduction, kept}

-- the tally of the kept steps
unfoldable pub tallied : List ℕ → List ℕ → Reduction → Tally
tallied w l m = after nothing (map (cost_word w) (kept m l))
