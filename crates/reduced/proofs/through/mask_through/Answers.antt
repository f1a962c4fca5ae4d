-- `mask_through` meets its contract. The loop's invariant: the flags before the index are by both reductions, and so many steps are kept by the first. The measure
-- is the number of steps left. Assumes nothing.
use native.Mathlib.Omega.{arith}
use mathlib.Core.Path.{sym}
use lib.Seq.{length-take-le}
use Rattle.reduced.proofs.ThroughLaws.{through_start, through_more, through_next, through_all}
use Rattle.reduced.proofs.through.mask_through.Goals as goal

pub loop-i-init : goal.loop-i-init
loop-i-init c = through_start _ _

pub bounds-both-i : goal.bounds-both-i
bounds-both-i c = omega (arith, c.loop-i-test.true, c.requires)

pub overflow_add-left : goal.overflow_add-left
overflow_add-left c = omega (arith, c.loop-i.invariant.few, c.loop-i-test.true, c.requires)

pub loop-i-preserved : goal.loop-i-preserved
loop-i-preserved c = through_more _ _ _ _ _ c.loop-i.invariant c.loop-i-test.true c.requires _ c.if-not-kept.false c.keeps.ensures

pub loop-i-preserved-then-not-kept : goal.loop-i-preserved-then-not-kept
loop-i-preserved-then-not-kept c = through_next _ _ _ _ _ c.loop-i.invariant c.loop-i-test.true c.requires c.if-not-kept.true

pub slice_bounds-mask_of-end : goal.slice_bounds-mask_of-end
slice_bounds-mask_of-end c = sym (length-take-le _ _ (omega (arith, c.loop-i.invariant.sized, c.requires)))

pub returns : goal.returns
returns c = through_all _ _ _ _ _ c.loop-i.invariant c.loop-i-test.false _ c.mask_of.ensures
