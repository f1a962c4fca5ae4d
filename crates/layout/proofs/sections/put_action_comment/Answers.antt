-- `put_action_comment` meets its contract: a sign, a word and a line. Assumes nothing.
use Rattle.lines.specs.Lines.{spaced}
use Rattle.lines.proofs.PutsLaws.{puts_both}
use Rattle.layout.proofs.sections.put_action_comment.Goals as goal

pub returns : goal.returns
unfolding spaced
returns c = puts_both c.text.ensures (puts_both c.text-2.ensures (rw c.from.ensures at c.row.ensures))
