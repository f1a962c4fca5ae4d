-- `bad_in_effects` meets its contract: effects with conditions are looked through one by one, others as a group. Assumes nothing.
use Rattle.sheet_check.proofs.BadFactLaws.{bad_conditional, bad_plain}
use Rattle.sheet_check.proofs.facts.bad_in_effects.Goals as goal

pub returns-then-effects : goal.returns-then-effects
returns-then-effects c = bad_conditional _ _ _ c.if-effects.true c.bad_in_conditional.ensures

pub returns : goal.returns
returns c = bad_plain _ _ _ c.if-effects.false c.bad_in_group.ensures
