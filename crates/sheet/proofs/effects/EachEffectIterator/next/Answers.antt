-- `next` meets its contract: before the end the first effect is given, and one fewer is left. Assumes nothing.
use Rattle.sheet.proofs.EffectLaws.{effects_over, effects_next, fewer_effects}
use Rattle.sheet.proofs.effects.EachEffectIterator.next.Goals as goal

pub returns-then-self-clause-steps : goal.returns-then-self-clause-steps
returns-then-self-clause-steps c = rw (c.facts-condition.ensures, c.condition.ensures, c.first-fact.ensures.0, c.rest-self.ensures) (effects_next _ _ c.if-self.true)

pub returns-then-self-clause-goes : goal.returns-then-self-clause-goes
returns-then-self-clause-goes c = record { on = λ finite. (tt, tt, rw c.rest-self.ensures (fewer_effects _ _ c.if-self.true)); keeps = tt; rests = λ finite. tt }

pub returns-clause-steps : goal.returns-clause-steps
returns-clause-steps c = (effects_over _ _ c.if-self.false, effects_over _ _ c.if-self.false)
