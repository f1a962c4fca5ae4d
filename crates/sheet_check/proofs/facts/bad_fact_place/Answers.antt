-- `bad_fact_place` meets its contract: a bad fact of the goal, or else the first of the actions. Assumes nothing.
use Rattle.std.proofs.Common.{rules}
use borrow.Author.Tests.{tests}
use Rattle.sheet_check.proofs.BadFactLaws.{fact_placed}
use Rattle.sheet_check.proofs.facts.bad_fact_place.Goals as goal

pub returns : goal.returns
returns c = fact_placed _ _ _ c.or_else.ensures _ c.goal.ensures c.bad_in_group.ensures (λ post. search (rules, tests))
