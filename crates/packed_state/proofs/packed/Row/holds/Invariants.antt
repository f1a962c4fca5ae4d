-- `holds` meets its contract. The loop's invariant: the variables before v have what the row asks for. Assumes nothing.
use mathlib.Core.Path.{◌≡◌}
use Rattle.packed_state.specs.Between.Packed.{has_first}
use Rattle.packed_state.proofs.packed.Row.holds.Given as goal

abbrev pub invariant-loop-v : goal.invariant-loop-v
invariant-loop-v l = l.all ≡ has_first l.self l.state l.v
