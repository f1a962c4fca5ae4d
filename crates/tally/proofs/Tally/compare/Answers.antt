-- `compare` meets its contract: the derived order is that of `comparison`. Assumes nothing.
use Rattle.std.proofs.Common.{◌∙◌, sym}
use Rattle.tally.proofs.OrderLaws.{compared_in_turn}
use Rattle.tally.proofs.Tally.compare.Goals as goal

pub returns : goal.returns
returns c = c.cmp.ensures ∙ sym (compared_in_turn c.args.self c.args.other)
