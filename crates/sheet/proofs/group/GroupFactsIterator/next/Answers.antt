-- `next` meets its contract: before the end the first fact is given, and one fewer is left. Assumes nothing.
use Rattle.sheet.proofs.GroupLaws.{group_over, group_first, fewer_first}
use Rattle.sheet.proofs.group.GroupFactsIterator.next.Goals as goal

pub returns-then-self-clause-steps : goal.returns-then-self-clause-steps
returns-then-self-clause-steps c = rw (c.get_or-fact.ensures) (group_first _ _ c.if-self.true)

pub returns-then-self-clause-goes : goal.returns-then-self-clause-goes
returns-then-self-clause-goes c = record { on = λ finite. (tt, tt, fewer_first _ _ c.if-self.true); keeps = tt; rests = λ finite. tt }

pub returns-clause-steps : goal.returns-clause-steps
returns-clause-steps c = (group_over _ _ c.if-self.false, group_over _ _ c.if-self.false)
