-- `find_fitting` meets its contract: an effect that is taken writes another variable, fits or is passed, and none is left where none comes. Assumes nothing.
use mathlib.Core.Path.{sym, ◌∙◌}
use Rattle.conflict.proofs.ClashLaws.{fits_over, fits_apart, fits_here, fits_later}
use Rattle.conflict.proofs.clash.find_fitting.Goals as goal

pub returns-then-variable-wanted : goal.returns-then-variable-wanted
returns-then-variable-wanted c =
    rw (← c.into_iter-effect-iterator.ensures.into_iter_gives)
    (sym (fits_apart _ _ _ _ c.in-Some.ensures.steps _ _ (rw c.variable.ensures.0 at c.if-variable-wanted.true)) ∙ c.loop-effect.invariant.1)

pub returns-then-not-denies_some : goal.returns-then-not-denies_some
returns-then-not-denies_some c =
    let same : _ = sym c.variable.ensures.0 ∙ c.if-variable-wanted.false in
    rw (← c.into_iter-effect-iterator.ensures.into_iter_gives)
    (sym (fits_here _ _ _ _ c.in-Some.ensures.steps _ _ _ same c.denies_some.ensures c.if-not-denies_some.true) ∙ c.loop-effect.invariant.1)

pub loop-effect-preserved : goal.loop-effect-preserved
loop-effect-preserved c =
    let same : _ = sym c.variable.ensures.0 ∙ c.if-variable-wanted.false in
    ((tt, tt), sym (fits_later _ _ _ _ c.in-Some.ensures.steps _ _ _ same c.denies_some.ensures c.if-not-denies_some.false) ∙ c.loop-effect.invariant.1)

pub returns : goal.returns
returns c =
    rw (← c.into_iter-effect-iterator.ensures.into_iter_gives)
    (sym (fits_over _ _ _ c.in-None.ensures.steps.0) ∙ c.loop-effect.invariant.1)
