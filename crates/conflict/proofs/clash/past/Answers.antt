-- `past` meets its contract: an effect that is taken is passed or not, and none is left where none comes. Assumes nothing.
use mathlib.Core.Path.{refl, sym, ◌∙◌}
use Rattle.conflict.proofs.ClashLaws.{past_over, past_here, past_next}
use Rattle.conflict.proofs.clash.past.Goals as goal

pub returns-then-effect-fact : goal.returns-then-effect-fact
returns-then-effect-fact c =
    c.loop-effect.invariant.0 ∙ past_here _ _ _ _ c.in-Some.ensures.steps _ c.if-effect-fact.true ∙ c.loop-effect.invariant.1

pub loop-effect-preserved : goal.loop-effect-preserved
loop-effect-preserved c = (refl, sym (past_next _ _ _ _ c.in-Some.ensures.steps _ c.if-effect-fact.false) ∙ c.loop-effect.invariant.1)

pub returns : goal.returns
returns c = c.loop-effect.invariant.0 ∙ past_over _ _ c.in_default.ensures.steps.0 ∙ c.loop-effect.invariant.1
