-- `put_state` meets its contract. The loop's invariant: with what is left of the state still to be written, the words are those with all of it. Assumes nothing.
use Prim.Native.Nat.{◌+◌, ◌-◌}
use mathlib.Core.Path.{◌≡◌}
use lib.ListN.{length, drop}
use lib.Seq.{sets}
use Rattle.course.proofs.put_state.Given as goal

abbrev pub invariant-loop-i : goal.invariant-loop-i
invariant-loop-i l = (sets l.states (l.at + l.i) (drop l.i l.state) ≡ sets l.initial.states l.at l.state) × (length l.states ≡ length l.initial.states)
