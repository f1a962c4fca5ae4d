-- `put_whole` meets its contract, by how many actions the task has. Assumes nothing.
use Rattle.lines.proofs.PutsLaws.{puts_as}
use Rattle.layout.proofs.ShownLaws.{whole_plain, whole_record}
use Rattle.layout.proofs.shown.put_whole.Goals as goal

pub returns-then-actions-gt-ACTIONS : goal.returns-then-actions-gt-ACTIONS
returns-then-actions-gt-ACTIONS c = puts_as (whole_plain _ _ _ _ c.front.ensures c.actions.ensures.0 c.if-actions-gt-ACTIONS.true) c.put_rows.ensures

pub returns : goal.returns
returns c = puts_as (whole_record _ _ _ _ c.front.ensures c.actions.ensures.0 c.if-actions-gt-ACTIONS.false) c.put_record.ensures
