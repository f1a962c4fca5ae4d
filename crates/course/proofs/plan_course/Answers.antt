-- `plan_course` meets its contract: what is read is refused, or followed from the starting values at the front of an array. Assumes nothing.
use Rattle.refusal.proofs.PassedOnLaws.{passed_on}
use Prim.Native.Nat.{◌≤◌}
use mathlib.Core.Path.{refl, subst}
use mathlib.Core.List.{[]}
use Rattle.sheet.specs.Limits.{limits}
use Rattle.step.proofs.StateLaws.{lent_length}
use Rattle.course.proofs.CourseLaws.{course_refused, course_readable, course_followed}
use Rattle.course.proofs.plan_course.Goals as goal

pub returns-in_err-check_read : goal.returns-in_err-check_read
returns-in_err-check_read c = rw (passed_on _ _ c.from_residual.ensures.1) (course_refused _ _ _ c.check_read.ensures _ _ c.in_err-check_read.was)

pub slice_bounds-follow-end : goal.slice_bounds-follow-end
slice_bounds-follow-end c = lent_length _ _ _ c.initial-values.ensures c.size-n.ensures.1

pub follow-requires : goal.follow-requires
follow-requires c = (
  (course_readable _ _ _ c.check_read.ensures [] c.in_ok-check_read.was).few,
  subst (λ n. n ≤ limits.variables) (lent_length _ _ _ c.initial-values.ensures c.size-n.ensures.1) c.size-n.ensures.1,
)

pub returns : goal.returns
returns c = course_followed _ _ _ c.check_read.ensures _ c.in_ok-check_read.was _ _ _ _ c.initial-values.ensures (rw c.size-n.ensures.0 refl) c.follow.ensures
