-- `bit` meets its contract. Assumes nothing.
use Rattle.turns.proofs.SoFarLaws.{bit_shifted, bit_missing}
use Rattle.turns.proofs.chosen.bit.Goals as goal

pub returns-then-d-lt-BITS : goal.returns-then-d-lt-BITS
returns-then-d-lt-BITS c = bit_shifted _ c.if-d-lt-BITS.true

pub returns-else-d-lt-BITS : goal.returns-else-d-lt-BITS
returns-else-d-lt-BITS c = bit_missing _ c.if-d-lt-BITS.false
