-- `have_neighbours` meets its contract: an effect that is taken is beside the one before it or not, and none is left where none comes. Assumes nothing.
use mathlib.Core.Path.{sym, ◌∙◌}
use Rattle.conflict.proofs.ClashLaws.{neighbours_over, neighbours_here, neighbours_later, beside_over, beside_first}
use Rattle.conflict.proofs.clash.have_neighbours.Goals as goal

pub returns-in_default : goal.returns-in_default
returns-in_default c = beside_over _ c.in_default.ensures.steps.0

pub returns-then-beside : goal.returns-then-beside
returns-then-beside c =
    rw (← c.into_iter-effect-iterator.ensures.into_iter_gives)
    (sym (neighbours_here _ _ _ _ c.in-Some-effect.ensures.steps _ _ c.beside.ensures c.if-beside.true) ∙ c.loop-effect.invariant.1)
    ∙ beside_first _ _ _ _ c.in-Some.ensures.steps

pub loop-effect-preserved : goal.loop-effect-preserved
loop-effect-preserved c =
    ((tt, tt), sym (neighbours_later _ _ _ _ c.in-Some-effect.ensures.steps _ _ c.beside.ensures c.if-beside.false) ∙ c.loop-effect.invariant.1)

pub returns : goal.returns
returns c =
    rw (← c.into_iter-effect-iterator.ensures.into_iter_gives)
    (sym (neighbours_over _ _ c.in-None.ensures.steps.0) ∙ c.loop-effect.invariant.1)
    ∙ beside_first _ _ _ _ c.in-Some.ensures.steps
