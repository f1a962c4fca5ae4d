-- `goal` meets its contract: offset and length, each as read. Assumes nothing.

use Rattle.sheet.proofs.group.goal.Goals as goal

pub returns : goal.returns
returns c = rw (c.size.ensures.0, c.offset-at.ensures.0)
