-- Where the counts are not bad, the sheet has no more variables than the limit. Assumes nothing.
use Prim.Native.Nat.{ℕ, ◌≤◌}
use mathlib.Core.Path.{◌≡◌}
use mathlib.Core.Bool.{false}
use mathlib.Core.List.{List}
use lib.Dec.{ltb}
use borrow.Author.Tests.{ltb-false}
use Rattle.sheet.specs.Limits.{limits}
use Rattle.sheet.specs.Layout.{variables, actions}
use Rattle.sheet.specs.Causes.{bad_counts}
use Rattle.sheet.proofs.CauseLaws.{none_of_three}

pub variables_few : (w : List ℕ) → bad_counts w ≡ false → variables w ≤ limits.variables
unfolding bad_counts
variables_few w good = ltb-false _ _ (none_of_three (ltb (variables w) 1) (ltb limits.variables (variables w)) (ltb limits.actions (actions w)) good).1
