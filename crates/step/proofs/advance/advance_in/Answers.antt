-- `advance_in` meets its contract: the front is lent, or all where there is no more. Assumes nothing.
use Rattle.step.proofs.AdvanceLaws.{part_length, advances_part, advances_whole}
use Rattle.step.proofs.advance.advance_in.Goals as goal

pub slice_bounds-advance-end-then-n-values : goal.slice_bounds-advance-end-then-n-values
slice_bounds-advance-end-then-n-values c = part_length _ _ c.if-n-values.true

pub advance-requires : goal.advance-requires
advance-requires c = rw (← part_length _ _ c.if-n-values.true) c.size-n.ensures.1

pub returns-then-n-values : goal.returns-then-n-values
returns-then-n-values c = advances_part _ _ _ c.size-n.ensures.0 c.if-n-values.true _ _ _ c.advance.ensures

pub returns : goal.returns
returns c = advances_whole _ _ _ c.size-n.ensures.0 c.if-n-values.false _ _ _ c.advance-2.ensures
