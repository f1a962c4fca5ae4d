-- `has_conditions` meets its contract: the edition, as read. Assumes nothing.

use Rattle.sheet.proofs.layout.has_conditions.Goals as goal

-- src/layout.rt:46:1
pub returns : goal.returns
returns c = rw (← c.number.ensures.0)
