-- `bad_in_action` meets its contract: a bad fact of the precondition, or else the first of the effects. Assumes nothing.
use Rattle.std.proofs.Common.{rules}
use borrow.Author.Tests.{tests}
use Rattle.sheet_check.proofs.BadFactLaws.{action_placed}
use Rattle.sheet_check.proofs.facts.bad_in_action.Goals as goal

pub returns : goal.returns
returns c =
    action_placed _ _ _ c.or_else.ensures _ _ _ c.facts_of-facts.ensures.0 c.facts_of-facts.ensures.1 c.bad_in_group.ensures (λ post. search (rules, tests))
