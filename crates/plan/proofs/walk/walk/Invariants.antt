-- `walk` meets its contract. The loop's invariant: from the next position on the walk finds what the whole walk finds, and no length changes. Assumes nothing.
use Rattle.plan.proofs.PlanWalkLaws.{Along}
use lib.ListN.{length}
use Prim.Native.Nat.{◌-◌}
use mathlib.Core.Path.{◌≡◌}
use Rattle.plan.proofs.walk.walk.Given as goal

abbrev pub invariant-loop-i : goal.invariant-loop-i
invariant-loop-i l = (length l.state ≡ length l.initial.state) × Along l.words l.plan l.initial.state l.i l.state l.tally
