-- `check_lodged` meets its contract: each way to a return is a case of what the check answers. Assumes nothing.
use Rattle.std.proofs.Common.{refl}
use Rattle.step.proofs.StateLaws.{lent_length}
use Rattle.refusal.proofs.PassedOnLaws.{passed_on}
use Rattle.plan.proofs.CheckedLaws.{read_refused, besides_refused, not_valid, valid}
use Rattle.plan.proofs.check.check_lodged.Goals as goal

pub returns-in_err-check_read : goal.returns-in_err-check_read
returns-in_err-check_read c =
    rw (passed_on _ _ c.from_residual.ensures.1)
    (read_refused _ c.requires _ _ _ _ c.check_read.ensures _ c.in_err-check_read.was)

pub returns-in_err-besides : goal.returns-in_err-besides
returns-in_err-besides c =
    rw (passed_on _ _ c.from_residual-in_err-besides.ensures.1)
    (besides_refused _ c.requires _ _ _ _ c.check_read.ensures c.in_ok-check_read.was _ c.in_err-besides.was)

pub slice_bounds-walk-end : goal.slice_bounds-walk-end
slice_bounds-walk-end c = lent_length _ _ _ c.initial-values.ensures c.size-n.ensures.1

pub returns-in-Err : goal.returns-in-Err
returns-in-Err c =
    not_valid _ c.requires _ _ _ _ c.check_read.ensures c.in_ok-check_read.was c.in_ok-besides.was _ _ _ _ _ c.initial-values.ensures c.size-n.ensures.0
    (rw c.size-n.ensures.0 refl) c.walk.ensures _ c.in-Err.is

pub returns-in-Ok : goal.returns-in-Ok
returns-in-Ok c =
    valid _ c.requires _ _ _ _ c.check_read.ensures c.in_ok-check_read.was c.in_ok-besides.was _ _ _ _ _ c.initial-values.ensures c.size-n.ensures.0
    (rw c.size-n.ensures.0 refl) c.walk.ensures _ _ c.in-Ok.is refl
