-- `holds` meets its contract. The loop's invariant: the variables before v have what the row asks for. Assumes nothing.
use mathlib.Core.Path.{refl}
use Rattle.packed_state.specs.Between.Packed.{has_first}
use Rattle.packed_state.proofs.PackedLaws.{has_more}
use Rattle.packed_state.proofs.packed.Row.holds.Goals as goal

pub loop-v-init : goal.loop-v-init
unfolding has_first
loop-v-init c = refl

pub loop-v-preserved : goal.loop-v-preserved
loop-v-preserved c = cc (has_more c.args.self.now c.args.state.now c.loop-v.v)
