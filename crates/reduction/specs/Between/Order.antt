-- Which of two lists is the lower, and when a reduction strikes all that another does. Assumes nothing.
use Rattle.std.specs.Prelude.{ℕ, Bool, ◌&&◌, ◌||◌, List, length, ltb, eqb}
use Rattle.sas.specs.Task.{Action}
use Rattle.sas.specs.Plan.{cost}
use Rattle.reduction.specs.Reduction.{Reduction, keeps}

-- of two lists the first has the lower price, or the same price and fewer steps
unfoldable pub lower : List Action → List Action → Bool
lower p q = ltb (cost p) (cost q) || (eqb (cost p) (cost q) && ltb (length p) (length q))

-- the second reduction is the first with none, some or all of its steps struck
abbrev pub Contains : Reduction → Reduction → Type 0
Contains m n = (i : ℕ) → keeps n i → keeps m i
