-- The walk along a list from a state that is lent. Assumes nothing.
use Rattle.std.specs.Prelude.{ℕ, ◌≡◌, length}
use mathlib.Core.List.{List, flatten}
use Rattle.std.proofs.lemmas.List.Edits.{sets}
use Rattle.plan.specs.Valid.{steps}
use Rattle.course.specs.Course.{states_along}

pub record Follows (w l s before : List ℕ) (count : ℕ) (after : List ℕ) : Type 0 where
  pub counted : count ≡ length (states_along s (steps w l))
  pub states : after ≡ sets before 0 (flatten (states_along s (steps w l)))
