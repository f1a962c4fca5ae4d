-- `kept_part` meets its contract: the part shown is that of the lower tally. Assumes nothing.
use Rattle.std.proofs.Common.{sym, ◌∙◌}
use Rattle.cheaper.proofs.CheaperTheorem.{shown_second, shown_first}
use Rattle.cheaper.proofs.both.kept_part.Goals as goal

pub returns-then-is_lower : goal.returns-then-is_lower
returns-then-is_lower c = c.front.ensures ∙ sym (shown_second _ _ _ _ (sym c.is_lower.ensures ∙ c.if-is_lower.true))

pub returns : goal.returns
returns c = c.front-2.ensures ∙ sym (shown_first _ _ _ _ (sym c.is_lower.ensures ∙ c.if-is_lower.false))
