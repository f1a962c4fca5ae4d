-- `write_precondition` meets its contract, by whether the prevail conditions fit, and then the old values. Assumes nothing.
use mathlib.Core.List.{[]}
use Rattle.meaning.proofs.GatherLaws.{joins_both, joins_neither}
use Rattle.task_sheet.proofs.PartLaws.{group_unfit, group_written}
use Rattle.task_sheet.proofs.action.write_precondition.Goals as goal

pub returns-in_err-gather : goal.returns-in_err-gather
returns-in_err-gather c =
    rw c.from_residual.ensures
    (group_unfit {group = []} (joins_neither _ (rw (c.new-group.ensures, c.prevail.ensures) at c.in_err-gather.ensures) []))

pub returns-in_err-gather-2 : goal.returns-in_err-gather-2
returns-in_err-gather-2 c =
    rw c.from_residual-in_err-gather-2.ensures
    (group_unfit (joins_both _ (rw (c.new-group.ensures, c.prevail.ensures) at c.in_ok-gather.ensures)
    (rw c.old_values.ensures at c.in_err-gather-2.ensures)))

pub returns : goal.returns
returns c =
    group_written (joins_both _ (rw (c.new-group.ensures, c.prevail.ensures) at c.in_ok-gather.ensures)
    (rw c.old_values.ensures at c.in_ok-gather-2.ensures)) c.write.ensures
