-- `bad_in_effect` meets its contract: a bad fact of the condition, or else the effect's own. Assumes nothing.
use Rattle.std.proofs.Common.{rules}
use borrow.Author.Tests.{tests}
use Rattle.sheet_check.proofs.BadFactLaws.{effect_placed}
use Rattle.sheet_check.proofs.facts.bad_in_effect.Goals as goal

pub returns : goal.returns
returns c = effect_placed _ _ _ c.or_else.ensures _ _ _ _ c.effect_fact-at.ensures c.bad_in_group.ensures (λ post. search (rules, tests))
