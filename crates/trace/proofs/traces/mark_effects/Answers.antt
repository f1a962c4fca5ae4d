-- `mark_effects` meets its contract: an effect that is taken is marked where it has no condition, and none is left where none comes. Assumes nothing.
use mathlib.Core.Bool.{true≢false}
use mathlib.Core.Path.{sym, ◌∙◌}
use Rattle.sheet.specs.Between.Effects.{always_in}
use Rattle.trace.proofs.TraceLaws.{latest_none, latest_always, latest_not}
use Rattle.trace.proofs.traces.mark_effects.Goals as goal

pub loop-effect-preserved-then-is_empty : goal.loop-effect-preserved-then-is_empty
loop-effect-preserved-then-is_empty c =
    ((tt, tt), rw c.mark_fact.ensures (sym (latest_always _ _ _ _ _ _ c.in-Some.ensures.steps (c.is_empty.ensures.0 c.if-is_empty.true)) ∙ c.loop-effect.invariant.1))

pub loop-effect-preserved : goal.loop-effect-preserved
loop-effect-preserved c = ((tt, tt), sym (latest_not _ _ _ _ _ _ c.in-Some.ensures.steps (λ none. true≢false (sym (c.is_empty.ensures.1 none) ∙ c.if-is_empty.false))) ∙ c.loop-effect.invariant.1)

pub returns : goal.returns
unfolding always_in
returns c =
    let whole : _ = sym (latest_none _ _ _ c.in-None.ensures.steps.0) ∙ c.loop-effect.invariant.1 in
    rw (← c.each-effect-items.ensures, ← c.into_iter-effect-iterator.ensures.into_iter_gives) whole
