-- `tally_of` meets its contract. The loop's invariant: the kept steps from i on, added to the tally, make the whole tally. Assumes nothing.
use mathlib.Core.Path.{sym, ◌∙◌}
use Rattle.reduced.proofs.TalliedLaws.{tallied_start, tallied_kept, tallied_skip, tallied_over}
use Rattle.reduced.proofs.tallied.tally_of.Goals as goal

pub loop-i-init : goal.loop-i-init
loop-i-init c = tallied_start _ _ _ _ c.new-tally.ensures

pub loop-i-preserved : goal.loop-i-preserved
loop-i-preserved c = rw c.add-tally.ensures (tallied_kept _ _ _ _ _ _ _ c.loop-i-test.true c.get_or.ensures c.if-not-get_or.false c.cost.ensures.0 ∙ c.loop-i.invariant)

pub loop-i-preserved-then-not-get_or : goal.loop-i-preserved-then-not-get_or
loop-i-preserved-then-not-get_or c = tallied_skip _ _ _ _ _ _ c.loop-i-test.true c.get_or.ensures c.if-not-get_or.true ∙ c.loop-i.invariant

pub returns : goal.returns
returns c = sym (tallied_over _ _ _ _ _ c.loop-i-test.false) ∙ c.loop-i.invariant
