-- `cheaper` meets its contract: a list that passes is valid where the eliminations begin, and each leaves what its definition says. Assumes nothing.
use Rattle.std.proofs.Common.{ap, refl}
use Rattle.refusal.proofs.PassedOnLaws.{passed_on}
use Rattle.plan.specs.Checked.{answer_in}
use Rattle.cheaper.proofs.ServiceLaws.{both_refused, both_kept}
use Rattle.elimination.specs.declared.single.Elimination.TheVariants.{Plain, Greedy}
use Rattle.elimination.proofs.LeavesLaws.{left_leaves}
use Rattle.reduced.proofs.AnswerLaws.{keeps}
use Rattle.reduced.proofs.LodgedLaws.{room_checked, nothing_refused, lodged_valid}
use Rattle.plan.proofs.PlanLaws.{passed_readable}
use mathlib.Core.Path.{sym}
use Rattle.cheaper.proofs.both.cheaper.Goals as goal

pub returns-in_err-check_lodged : goal.returns-in_err-check_lodged
returns-in_err-check_lodged c =
    rw (passed_on _ _ c.from_residual.ensures.1)
    (both_refused _ _ _ _ _ _ c.min-room.ensures (room_checked _ _ _ _ _ _ c.check_room.ensures c.check_lodged.ensures) _ _ _ (ap answer_in c.in_err-check_lodged.was) refl refl)

pub flags_left-eliminated-requires : goal.flags_left-eliminated-requires
flags_left-eliminated-requires c =
    let passed = nothing_refused _ _ _ _ _ _ c.check_room.ensures c.check_lodged.ensures _ (ap answer_in c.in_ok-check_lodged.was) in
    record { readable = passed_readable _ _ _ _ passed; plan_value = lodged_valid _ _ _ passed }

pub slice_bounds-eliminated-end : goal.slice_bounds-eliminated-end
slice_bounds-eliminated-end c =
    let passed = nothing_refused _ _ _ _ _ _ c.check_room.ensures c.check_lodged.ensures _ (ap answer_in c.in_ok-check_lodged.was) in
    (left_leaves _ _ (passed_readable _ _ _ _ passed) (lodged_valid _ _ _ passed) Plain _ c.flags_left-eliminated.ensures).within

pub slice_bounds-finish-end : goal.slice_bounds-finish-end
slice_bounds-finish-end c =
    let passed = nothing_refused _ _ _ _ _ _ c.check_room.ensures c.check_lodged.ensures _ (ap answer_in c.in_ok-check_lodged.was) in
    sym (left_leaves _ _ (passed_readable _ _ _ _ passed) (lodged_valid _ _ _ passed) Plain _ c.flags_left-eliminated.ensures).fits

pub flags_left-greedily-requires : goal.flags_left-greedily-requires
flags_left-greedily-requires c =
    let passed = nothing_refused _ _ _ _ _ _ c.check_room.ensures c.check_lodged.ensures _ (ap answer_in c.in_ok-check_lodged.was) in
    record { readable = passed_readable _ _ _ _ passed; plan_value = lodged_valid _ _ _ passed }

pub slice_bounds-greedily-end : goal.slice_bounds-greedily-end
slice_bounds-greedily-end c =
    let passed = nothing_refused _ _ _ _ _ _ c.check_room.ensures c.check_lodged.ensures _ (ap answer_in c.in_ok-check_lodged.was) in
    (left_leaves _ _ (passed_readable _ _ _ _ passed) (lodged_valid _ _ _ passed) Greedy _ c.flags_left-greedily.ensures).within

pub slice_bounds-finish-end-2 : goal.slice_bounds-finish-end-2
slice_bounds-finish-end-2 c =
    let passed = nothing_refused _ _ _ _ _ _ c.check_room.ensures c.check_lodged.ensures _ (ap answer_in c.in_ok-check_lodged.was) in
    sym (left_leaves _ _ (passed_readable _ _ _ _ passed) (lodged_valid _ _ _ passed) Greedy _ c.flags_left-greedily.ensures).fits

pub returns : goal.returns
returns c =
    let asked = c.check_room.ensures in
    let checked = c.check_lodged.ensures in
    let valid = ap answer_in c.in_ok-check_lodged.was in
    let passed = nothing_refused _ _ _ _ _ _ asked checked _ valid in
    let readable = passed_readable _ _ _ _ passed in
    let left = left_leaves _ _ (passed_readable _ _ _ _ passed) (lodged_valid _ _ _ passed) Plain _ c.flags_left-eliminated.ensures in
    let left' = left_leaves _ _ (passed_readable _ _ _ _ passed) (lodged_valid _ _ _ passed) Greedy _ c.flags_left-greedily.ensures in
    both_kept _ _ _ _ _ _ c.min-room.ensures (room_checked _ _ _ _ _ _ asked checked) _ _ _ _ _ _ _ _ _ valid left.same left'.same
    (keeps _ _ _ _ _ _ _ readable left.fits c.finish-by_elimination.ensures) (keeps _ _ _ _ _ _ _ readable left'.fits c.finish-by_greed.ensures)
