-- A reduction as the code holds it: flags for the most steps that a plan may have, none up past the plan's last.
-- Assumes nothing.
use Rattle.std.specs.Prelude.{ℕ, ◌-◌, ◌≤◌, min, ◌≡◌, true, false, List, ◌++◌, length, take, replicate}
use Rattle.plan.specs.Limits.{most_steps}
use Rattle.reduction.specs.Reduction.{Reduction}

-- the reduction of the plan l that flags are
abbrev pub mask : List ℕ → Reduction → Reduction
mask l flags = take (length l) flags

-- the flags that a reduction of the plan l is
abbrev pub flags_of : List ℕ → Reduction → Reduction
flags_of l m = m ++ replicate (most_steps - length l) false

-- the flags of a plan of n steps of which none is struck: n of them are up, or all where there are fewer
abbrev pub none_struck : ℕ → Reduction
none_struck n = replicate (min n most_steps) true ++ replicate (most_steps - n) false

-- flags that are the reduction m of the plan l
pub record Leaves (l : List ℕ) (m flags : Reduction) : Type 0 where
  pub within : length l ≤ length flags
  pub fits : length (mask l flags) ≡ length l
  pub same : mask l flags ≡ m
