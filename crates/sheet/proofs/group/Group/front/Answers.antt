-- `front` meets its contract: the group has a fact, or it is empty. Assumes nothing.
use mathlib.Core.Path.{sym}
use Rattle.sheet.proofs.GroupLaws.{front_of_some, front_of_none}
use Rattle.sheet.proofs.group.Group.front.Goals as goal

pub returns-then-self : goal.returns-then-self
returns-then-self c = sym (front_of_some _ c.if-self.true)

pub returns : goal.returns
returns c = sym (front_of_none _ c.if-self.false)
