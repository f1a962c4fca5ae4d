-- `end_line` meets its contract: two texts, one behind the other. Assumes nothing.
use Rattle.lines.proofs.PutsLaws.{puts_both}
use Rattle.lines.proofs.Page.end_line.Goals as goal

pub returns : goal.returns
returns g c = let (xs, zipped, puts) = c.spaced.ensures in (xs, zipped, puts_both puts c.text.ensures)
