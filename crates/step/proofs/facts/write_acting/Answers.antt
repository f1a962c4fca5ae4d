-- `write_acting` meets its contract: the fact of an effect that is taken is written where its condition holds, and none is left where none comes. Assumes nothing.
use mathlib.Core.Path.{sym, ◌∙◌}
use Rattle.step.proofs.FailingLaws.{is_none_told, acting_over, acting_next, acting_not}
use Rattle.step.proofs.facts.write_acting.Goals as goal

pub loop-effect-preserved-then-is_none : goal.loop-effect-preserved-then-is_none
loop-effect-preserved-then-is_none c =
    let passed : _ = is_none_told _ _ c.is_none.ensures ∙ c.if-is_none.true in
    ((tt, tt), rw c.put_fact.ensures (sym (acting_next _ _ _ _ _ _ c.in-Some.ensures.steps _ c.find_failing.ensures passed) ∙ c.loop-effect.invariant.1))

pub loop-effect-preserved : goal.loop-effect-preserved
loop-effect-preserved c =
    let failed : _ = is_none_told _ _ c.is_none.ensures ∙ c.if-is_none.false in
    ((tt, tt), sym (acting_not _ _ _ _ _ _ c.in-Some.ensures.steps _ c.find_failing.ensures failed) ∙ c.loop-effect.invariant.1)

pub returns : goal.returns
returns c =
    let whole : _ = sym (acting_over _ _ _ c.in-None.ensures.steps.0) ∙ c.loop-effect.invariant.1 in
    rw (← c.into_iter-effect-iterator.ensures.into_iter_gives) whole
