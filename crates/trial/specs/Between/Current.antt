-- The current list as the code holds it: flags for the most steps that a plan may have, none up past the plan's last.
-- Assumes nothing.
use Rattle.std.specs.Prelude.{ℕ, ◌≤◌, ◌≡◌, true, List, length}
use Rattle.sheet.specs.Decode.{initial, goal}
use Rattle.plan.specs.Limits.{most_steps}
use Rattle.plan.specs.Valid.{steps}
use Rattle.reduction.specs.Reduction.{Reduction, kept, valid}
use Rattle.reduced.specs.Between.Held.{mask, flags_of}

-- flags that are a valid reduction of the plan l
pub record Current (w l : List ℕ) (flags : Reduction) : Type 0 where
  pub few : length l ≤ most_steps
  pub long : length flags ≡ most_steps
  pub none_past : flags ≡ flags_of l (mask l flags)
  pub valid_left : valid (initial w) (goal w) (kept (mask l flags) (steps w l)) ≡ true
