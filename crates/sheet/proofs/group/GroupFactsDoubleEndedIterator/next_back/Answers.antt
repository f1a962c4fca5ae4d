-- `next_back` meets its contract: before the end the last fact is given, and one fewer is left. Assumes nothing.
use Rattle.sheet.proofs.GroupLaws.{group_over, group_final, fewer_final}
use Rattle.sheet.proofs.group.GroupFactsDoubleEndedIterator.next_back.Goals as goal

pub returns-then-self-clause-steps : goal.returns-then-self-clause-steps
returns-then-self-clause-steps c = rw (c.get_or.ensures) (group_final _ _ c.if-self.true)

pub returns-then-self-clause-goes : goal.returns-then-self-clause-goes
returns-then-self-clause-goes c = record { on = λ finite. (tt, tt, fewer_final _ _ c.if-self.true); keeps = tt; rests = λ finite. tt }

pub returns-clause-steps : goal.returns-clause-steps
returns-clause-steps c = (group_over _ _ c.if-self.false, group_over _ _ c.if-self.false)
