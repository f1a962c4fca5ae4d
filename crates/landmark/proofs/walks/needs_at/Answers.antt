-- `needs_at` meets its contract: behind a step's index its needs, behind the last the goal. Assumes nothing.
use Rattle.landmark.proofs.CloseLaws.{needs_of_step, needs_of_goal}
use Rattle.landmark.proofs.walks.needs_at.Goals as goal

pub returns-then-i-plan : goal.returns-then-i-plan
returns-then-i-plan c =
    let given = c.args in
    needs_of_step given.words.now given.plan.now _ _ c.if-i-plan.true c.facts_of.ensures.0

pub returns : goal.returns
returns c =
    let given = c.args in
    needs_of_goal given.words.now given.plan.now _ _ c.requires c.if-i-plan.false c.goal.ensures
