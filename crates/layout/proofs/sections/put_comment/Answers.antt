-- `put_comment` meets its contract: a sign, and a line. Assumes nothing.
use Rattle.lines.specs.Lines.{spaced}
use Rattle.lines.proofs.PutsLaws.{puts_both}
use Rattle.layout.proofs.sections.put_comment.Goals as goal

pub returns : goal.returns
unfolding spaced
returns c = puts_both c.text.ensures c.line.ensures
