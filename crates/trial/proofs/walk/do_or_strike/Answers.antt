-- `do_or_strike` meets its contract: the step is done, or can't be. Assumes nothing.
use Rattle.trial.proofs.TrialWalkLaws.{turns_done, turns_struck}
use Rattle.trial.proofs.walk.do_or_strike.Goals as goal

pub returns-then-advance : goal.returns-then-advance
returns-then-advance c = turns_done _ _ _ _ _ _ _ _ c.requires.0 c.advance.ensures c.if-advance.true

pub returns : goal.returns
returns c = turns_struck _ _ _ _ _ _ _ _ _ _ _ c.requires.0 c.advance.ensures c.if-advance.false c.put.ensures c.cost.ensures.0 c.add.ensures
