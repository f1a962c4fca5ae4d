-- `write_over` meets its contract. The loop's invariant: the row is written over the variables before v. Assumes nothing.
use Rattle.packed_state.proofs.PackedLaws.{writing_end}
use Rattle.packed_state.proofs.packed.Row.write_over.Goals as goal

pub returns : goal.returns
returns c = writing_end _ _ _ _ c.loop-v.invariant c.loop-v-test.false
