-- `pack` meets its contract. The loop's invariant: the bytes of the words passed are put. Assumes nothing.
use Rattle.program.proofs.PackLaws.{no_word_put, word_put}
use Rattle.program.proofs.pack.pack.Goals as goal

pub loop-word-init : goal.loop-word-init
loop-word-init c = no_word_put _

pub loop-word-preserved : goal.loop-word-preserved
loop-word-preserved c = word_put _ c.loop-word.word-index c.loop-word-test.true c.loop-word.invariant c.to_le_bytes.ensures c.text.ensures
