-- `write_over` meets its contract. The loop's invariant: the row is written over the variables before v. Assumes nothing.
use Rattle.packed_state.proofs.PackedLaws.{Writing}
use Rattle.packed_state.proofs.packed.Row.write_over.Given as goal

abbrev pub invariant-loop-v : goal.invariant-loop-v
invariant-loop-v l = Writing l.self l.state l.has-items l.v
