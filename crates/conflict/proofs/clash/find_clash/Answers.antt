-- `find_clash` meets its contract: an effect that is taken clashes with one behind it or not, and none is left where none comes. Assumes nothing.
use mathlib.Core.Path.{refl, sym, ◌∙◌}
use Rattle.conflict.proofs.ClashLaws.{ahead_first, still_ahead, clash_over, clash_here, clash_later}
use Rattle.conflict.proofs.clash.find_clash.Goals as goal

pub loop-effect-init : goal.loop-effect-init
loop-effect-init c = ((tt, tt), refl, rw c.into_iter-effect-iterator.ensures.into_iter_gives (ahead_first _))

pub returns-then-clashes : goal.returns-then-clashes
returns-then-clashes c =
    let loop : _ = c.loop-effect.invariant in
    rw (← c.into_iter-effect-iterator.ensures.into_iter_gives)
    (sym (clash_here _ _ _ _ c.in-Some.ensures.steps _ _ loop.2 c.past-behind.ensures _ _ c.clashes.ensures c.if-clashes.true) ∙ loop.1)

pub loop-effect-preserved : goal.loop-effect-preserved
loop-effect-preserved c =
    let loop : _ = c.loop-effect.invariant in (
      (tt, tt),
      sym (clash_later _ _ _ _ c.in-Some.ensures.steps _ _ loop.2 c.past-behind.ensures _ _ c.clashes.ensures c.if-clashes.false) ∙ loop.1,
      still_ahead _ _ _ _ c.in-Some.ensures.steps _ _ loop.2 c.past-behind.ensures,
    )

pub returns : goal.returns
returns c =
    rw (← c.into_iter-effect-iterator.ensures.into_iter_gives)
    (sym (clash_over _ _ c.in-None.ensures.steps.0) ∙ c.loop-effect.invariant.1)
