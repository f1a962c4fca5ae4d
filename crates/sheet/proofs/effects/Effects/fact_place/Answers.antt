-- `fact_place` meets its contract: with a condition, or without. Assumes nothing.
use mathlib.Core.Path.{sym, ◌∙◌}
use Rattle.sheet.proofs.EffectLaws.{conditional_fact, plain_fact}
use Rattle.sheet.proofs.effects.Effects.fact_place.Goals as goal

-- src/effects.rt:24:13
pub returns-then-self : goal.returns-then-self
returns-then-self c = c.effect_fact.ensures ∙ sym (conditional_fact _ _ c.if-self.true)

-- src/effects.rt:20:5
pub returns : goal.returns
returns c = sym (plain_fact _ _ c.if-self.false)
