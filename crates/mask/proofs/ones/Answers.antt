-- `ones` meets its contract: a word of 64 digits has at most 64 ones. Assumes nothing.
use lib.Count.{ones-le}
use Rattle.mask.specs.Mask.{word_bits}
use Rattle.std.proofs.Common.{rules}
use Rattle.mask.proofs.ones.Goals as goal

pub returns : goal.returns
returns c = (search rules, ones-le word_bits _ c.ranges.word.fits)
