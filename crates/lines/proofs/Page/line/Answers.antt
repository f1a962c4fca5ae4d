-- `line` meets its contract: two texts, one behind the other. Assumes nothing.
use mathlib.Core.List.{[]}
use Rattle.lines.specs.Lines.{line}
use Rattle.lines.proofs.PutsLaws.{puts_both, of_same}
use Rattle.lines.proofs.Page.line.Goals as goal

pub returns : goal.returns
returns c = puts_both c.text.ensures (of_same {t = line []} c.end_line.ensures)
