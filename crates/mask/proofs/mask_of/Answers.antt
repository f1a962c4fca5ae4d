-- `mask_of` meets its contract: its words are the four, each of the flags from its start on. Assumes nothing.
use Rattle.mask.proofs.MaskLaws.{four_words}
use Rattle.mask.proofs.mask_of.Goals as goal

pub returns : goal.returns
returns c = four_words _ _ _ _ _ c.word_of.ensures c.word_of-2.ensures c.word_of-3.ensures c.word_of-4.ensures
