-- Elimination's turn at a position, on the flags that the code holds. Assumes nothing.
use Rattle.std.specs.Prelude.{ℕ, ◌+◌, ◌≡◌, List}
use Rattle.std.proofs.Math.Option.{get_or}
use Rattle.sheet.specs.Decode.{initial, goal}
use Rattle.plan.specs.Valid.{steps}
use Rattle.reduction.specs.Reduction.{Reduction, Before}
use Rattle.reduction.specs.Between.Elimination.{trial}
use Rattle.reduced.specs.Between.Held.{mask}
use Rattle.trial.specs.Between.Current.{Current}

-- the flags and the state after elimination's turn at index i
pub record Eliminates (w l : List ℕ) (i : ℕ) (flags after : Reduction) (values : List ℕ) : Type 0 where
  pub current : Current w l after
  pub struck : mask l after ≡ get_or (trial (initial w) (goal w) (steps w l) (mask l flags) i) (mask l flags)
  pub before : Before (initial w) (steps w l) (mask l after) (i + 1) values
