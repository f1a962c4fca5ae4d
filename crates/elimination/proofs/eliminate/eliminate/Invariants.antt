-- `eliminate` meets its contract. The loop's invariant: the flags are what has been eliminated so far, and the state is the one before the next step; a turn finds it struck, strikes by a trial, or does it. Assumes nothing.
use mathlib.Core.Path.{◌≡◌}
use Prim.Native.Nat.{◌-◌}
use lib.ListN.{length}
use Rattle.step.specs.State.{front}
use Rattle.elimination.proofs.EliminateLaws.{Eliminating}
use Rattle.elimination.proofs.eliminate.eliminate.Given as goal

abbrev pub invariant-loop-i : goal.invariant-loop-i
invariant-loop-i l = (length l.values ≡ 64) × Eliminating l.words l.plan l.i l.flags (front l.words l.values)
