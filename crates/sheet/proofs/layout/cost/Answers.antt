-- `cost` meets its contract: the word at the offset that the action's pair has. Assumes nothing.
use mathlib.Core.Path.{◌∙◌}
use Rattle.sheet.proofs.layout.cost.Goals as goal

pub returns : goal.returns
returns c = (c.get_or.ensures ∙ rw (← c.offset.ensures.0), c.get_or.type_inv)
