-- `condition` meets its contract: up to where the fact stands, or none. Assumes nothing.
use mathlib.Core.Path.{sym}
use Rattle.sheet.proofs.EffectLaws.{plain_group, group_before, group_past}
use Rattle.sheet.proofs.effects.Effects.condition.Goals as goal

-- src/effects.rt:43:17
pub returns-then-self-2 : goal.returns-then-self-2
returns-then-self-2 c = group_before _ _ _ c.if-self.true c.if-self-2.true c.fact_place-fact.ensures

-- src/effects.rt:48:13
pub returns-then-self : goal.returns-then-self
returns-then-self c = group_past _ _ _ c.if-self.true c.if-self-2.false c.fact_place-fact.ensures

-- src/effects.rt:37:5
pub returns : goal.returns
returns c = sym (plain_group _ _ c.if-self.false)
