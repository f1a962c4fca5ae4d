-- `round` meets its contract. The loop's invariant: the best so far is that of the positions passed, and the state is the one before the next. Assumes nothing.
use mathlib.Core.Path.{◌≡◌}
use Prim.Native.Nat.{◌-◌, ◌≤◌}
use lib.ListN.{length}
use Rattle.step.specs.State.{front}
use Rattle.reduced.specs.Between.Held.{mask}
use Rattle.elimination.specs.Between.Round.{Looks}
use Rattle.elimination.proofs.greedy.round.Given as goal

abbrev pub invariant-loop-i : goal.invariant-loop-i
invariant-loop-i l = (l.i ≤ length l.plan) × ((length l.values ≡ 64) × Looks l.words l.plan (mask l.plan l.flags) l.i l.best (front l.words l.values))
