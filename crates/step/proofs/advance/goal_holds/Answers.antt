-- `goal_holds` meets its contract: the goal holds just where its test finds no failing fact. Assumes nothing.
use Rattle.step.proofs.AdvanceLaws.{goal_told}
use Rattle.step.proofs.advance.goal_holds.Goals as goal

pub returns : goal.returns
returns c = goal_told _ _ _ _ c.goal.ensures (rw (← c.facts.ensures) c.find_failing.ensures) _ c.is_none.ensures
