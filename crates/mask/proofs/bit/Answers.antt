-- `bit` meets its contract: the bit is read in its word. Assumes nothing.
use Rattle.mask.proofs.BitLaws.{bit_read}
use Rattle.mask.proofs.bit.Goals as goal

pub returns : goal.returns
returns c = rw c.get_or.ensures (bit_read c.args.words.now c.args.i)
