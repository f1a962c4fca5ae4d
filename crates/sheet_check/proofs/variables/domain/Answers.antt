-- `domain` meets its contract: the word at the part's offset and the variable. Assumes nothing.
use mathlib.Core.Path.{◌∙◌}
use Rattle.sheet_check.proofs.variables.domain.Goals as goal

pub returns : goal.returns
returns c = (c.number.ensures.0 ∙ rw (← c.offset.ensures.0), c.number.ensures.1)
