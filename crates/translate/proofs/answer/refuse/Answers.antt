-- `refuse` meets its contract: a line is said, and nothing is written. Assumes nothing.
use Rattle.std.proofs.Common.{rules}
use Rattle.lines.specs.Lines.{spaced}
use Rattle.lines.proofs.PutsLaws.{puts_prints}
use Rattle.translate.proofs.SayLaws.{answers_saying}
use Rattle.translate.proofs.answer.refuse.Goals as goal

pub returns : goal.returns
unfolding spaced
returns c =
    let page = c.new-page.ensures in
    λ out. answers_saying c.args.what.now out (puts_prints page.kept page.empty c.line.ensures (search rules))
