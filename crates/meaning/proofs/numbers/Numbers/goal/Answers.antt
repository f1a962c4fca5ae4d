-- `goal` meets its contract: the lines of the facts whose number stands there. Assumes nothing.
use Rattle.meaning.specs.Between.Sections.{goal}
use Rattle.meaning.proofs.numbers.Numbers.goal.Goals as goals

pub returns : goals.returns
unfolding goal
returns c = rw c.goal_at.ensures.0 at c.facts.ensures
