-- `rest` meets its contract: the group has a fact, or it is empty. Assumes nothing.
use mathlib.Core.Path.{sym}
use Rattle.sheet.proofs.GroupLaws.{rest_of_some, rest_of_none}
use Rattle.sheet.proofs.group.Group.rest.Goals as goal

pub returns-then-self : goal.returns-then-self
returns-then-self c = sym (rest_of_some _ c.if-self.true)

pub returns : goal.returns
returns c = sym (rest_of_none _ c.if-self.false)
