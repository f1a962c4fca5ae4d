-- `last` meets its contract: the group has a fact, or it is empty. Assumes nothing.
use mathlib.Core.Path.{sym, ◌∙◌}
use Rattle.sheet.proofs.GroupLaws.{last_fact_some, last_fact_none}
use Rattle.std.proofs.Common.{rules}
use Rattle.sheet.proofs.group.Group.last.Goals as goal

pub returns-then-self : goal.returns-then-self
returns-then-self c = (c.get_or.ensures ∙ sym (last_fact_some _ _ c.if-self.true), c.get_or.type_inv)

pub returns : goal.returns
returns c = (sym (last_fact_none _ _ c.if-self.false), search rules)
