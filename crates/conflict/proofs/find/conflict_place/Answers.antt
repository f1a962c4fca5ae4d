-- `conflict_place` meets its contract: the first clash in edition 2, and nothing in edition 1. Assumes nothing.
use mathlib.Core.Path.{sym, ◌∙◌}
use Rattle.conflict.proofs.FindTheorem.{finds_second, finds_first}
use Rattle.conflict.proofs.find.conflict_place.Goals as goal

pub returns-then-has_conditions : goal.returns-then-has_conditions
returns-then-has_conditions c = finds_second _ _ (sym c.has_conditions.ensures ∙ c.if-has_conditions.true) c.first_clash.ensures

pub returns : goal.returns
returns c = finds_first _ (sym c.has_conditions.ensures ∙ c.if-has_conditions.false)
