-- `mark_lodged` meets its contract: the refusal, or the landmarks. Assumes nothing.
use Rattle.std.proofs.Common.{ap}
use Rattle.refusal.proofs.PassedOnLaws.{passed_on}
use Rattle.plan.specs.Checked.{answer_in}
use Rattle.landmark.proofs.MarkLaws.{lodged_refused, lodged_marked}
use Rattle.landmark.proofs.marks.mark_lodged.Goals as goal

pub returns-in_err-checked : goal.returns-in_err-checked
returns-in_err-checked c = rw (passed_on _ _ c.from_residual.ensures.1) (lodged_refused _ _ _ _ _ c.check_lodged.ensures _ (ap answer_in c.in_err-checked.was))

pub returns : goal.returns
returns c = lodged_marked _ _ _ _ _ c.check_lodged.ensures _ _ (ap answer_in c.in_ok-checked.was) c.landmarks.ensures
