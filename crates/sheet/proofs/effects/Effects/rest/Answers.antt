-- `rest` of effects meets its contract: behind the fact of the first, at most at the end; or there is none. Assumes nothing.
use mathlib.Core.Path.{sym}
use Rattle.sheet.proofs.EffectLaws.{rest_before, rest_past, rest_effects_none}
use Rattle.sheet.proofs.effects.Effects.rest.Goals as goal

-- src/effects.rt:66:17
pub returns-then-fact-self : goal.returns-then-fact-self
returns-then-fact-self c = rest_before _ _ _ c.if-self.true c.fact_place-fact.ensures c.if-fact-self.true

-- src/effects.rt:72:13
pub returns-then-self : goal.returns-then-self
returns-then-self c = rest_past _ _ _ c.if-self.true c.fact_place-fact.ensures c.if-fact-self.false

-- src/effects.rt:60:5
pub returns : goal.returns
returns c = sym (rest_effects_none _ _ c.if-self.false)
