-- `past_part` meets its contract: in edition 2 some effect is asked for, in edition 1 none. Assumes nothing.
use mathlib.Core.Path.{sym, ◌∙◌}
use Rattle.sheet_check.proofs.PastLaws.{past_second, past_first}
use Rattle.sheet_check.proofs.pairs.past_part.Goals as goal

pub returns-then-has_conditions : goal.returns-then-has_conditions
returns-then-has_conditions c = c.some_past.ensures ∙ past_second _ _ _ (sym c.has_conditions.ensures ∙ c.if-has_conditions.true)

pub returns : goal.returns
returns c = past_first _ _ _ (sym c.has_conditions.ensures ∙ c.if-has_conditions.false)
