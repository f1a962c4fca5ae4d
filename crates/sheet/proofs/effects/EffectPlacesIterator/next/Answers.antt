-- `next` meets its contract: before the end the first place is given, and one fewer is left. Assumes nothing.
use Rattle.std.proofs.Common.{rules}
use Rattle.sheet.proofs.EffectLaws.{effect_words_over, effect_words_first, fewer_words}
use Rattle.sheet.proofs.effects.EffectPlacesIterator.next.Goals as goal

pub returns-then-self-clause-steps : goal.returns-then-self-clause-steps
returns-then-self-clause-steps c = effect_words_first _ _ _ _ c.if-self.true (search rules)

pub returns-then-self-clause-goes : goal.returns-then-self-clause-goes
returns-then-self-clause-goes c = record { on = λ finite. (tt, tt, fewer_words _ _ _ _ c.if-self.true (search rules)); keeps = tt; rests = λ finite. tt }

pub returns-clause-steps : goal.returns-clause-steps
returns-clause-steps c = (effect_words_over _ _ _ _ c.if-self.false, effect_words_over _ _ _ _ c.if-self.false)
