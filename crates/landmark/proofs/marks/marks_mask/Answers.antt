-- `marks_mask` meets its contract: the refusal, or the mask of the marks. Assumes nothing.
use Rattle.std.proofs.Common.{ap, refl}
use Rattle.refusal.proofs.PassedOnLaws.{passed_on}
use Rattle.landmark.specs.Between.Flagged.{answer_marked}
use Rattle.landmark.proofs.MarkLaws.{masks_refused, flags_leave, masks_passed}
use mathlib.Core.Path.{sym}
use Rattle.landmark.proofs.marks.marks_mask.Goals as goal

pub slice_bounds-flags-end : goal.slice_bounds-flags-end
slice_bounds-flags-end c = (flags_leave _ _ _ _ c.in_ok-marked.ensures _ refl).within

pub slice_bounds-mask_of-end : goal.slice_bounds-mask_of-end
slice_bounds-mask_of-end c = sym (flags_leave _ _ _ _ c.in_ok-marked.ensures _ refl).fits

pub returns-in_err-marked : goal.returns-in_err-marked
returns-in_err-marked c = rw (passed_on _ _ c.from_residual.ensures.1) (masks_refused _ _ _ _ c.mark_lodged.ensures _ (ap answer_marked c.in_err-marked.was))

pub returns : goal.returns
returns c = masks_passed _ _ _ _ c.in_ok-marked.ensures _ refl _ c.mask_of.ensures
