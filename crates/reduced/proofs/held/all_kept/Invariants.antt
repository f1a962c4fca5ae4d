-- `all_kept` meets its contract. The loop's invariant: the first i flags are up. Assumes nothing.
use mathlib.Core.Path.{◌≡◌}
use Rattle.plan.specs.Limits.{most_steps}
use Rattle.reduced.proofs.HeldLaws.{raised}
use Rattle.reduced.proofs.held.all_kept.Given as goal

abbrev pub invariant-loop-i : goal.invariant-loop-i
invariant-loop-i l = l.flags ≡ raised most_steps l.i
