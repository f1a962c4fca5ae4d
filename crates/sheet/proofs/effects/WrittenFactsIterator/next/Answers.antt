-- `next` meets its contract: before the end the first fact is given, and one fewer is left. Assumes nothing.
use Rattle.sheet.proofs.EffectLaws.{written_over, written_next, fewer_written}
use Rattle.sheet.proofs.effects.WrittenFactsIterator.next.Goals as goal

pub returns-then-self-clause-steps : goal.returns-then-self-clause-steps
returns-then-self-clause-steps c = rw (c.first-fact.ensures.0, c.rest-self.ensures) (written_next _ _ c.if-self.true)

pub returns-then-self-clause-goes : goal.returns-then-self-clause-goes
returns-then-self-clause-goes c = record { on = λ finite. (tt, tt, rw c.rest-self.ensures (fewer_written _ _ c.if-self.true)); keeps = tt; rests = λ finite. tt }

pub returns-clause-steps : goal.returns-clause-steps
returns-clause-steps c = (written_over _ _ c.if-self.false, written_over _ _ c.if-self.false)
