-- `write_action` meets its contract, by whether its cost, its precondition and its effect fit. Assumes nothing.
use native.Mathlib.Omega.{arith}
use Rattle.task_sheet.proofs.PartLaws.{action_unneeded, action_dear, action_written}
use Rattle.task_sheet.proofs.action.write_action.Goals as goal

pub returns-then-price-gt-COST : goal.returns-then-price-gt-COST
returns-then-price-gt-COST c = action_dear _ _ _ _ (omega (arith, c.cost-price.ensures, c.if-price-gt-COST.true)) _

pub returns-in_err-effects_at : goal.returns-in_err-effects_at
returns-in_err-effects_at c = rw c.from_residual.ensures (action_unneeded _ _ _ _ c.in_err-effects_at.ensures)

pub returns : goal.returns
returns c =
    action_written _ _ _ _ _ c.in_ok-effects_at.ensures _ c.cost-price.ensures c.if-price-gt-COST.false _ c.write_action_header.ensures _ _
    (rw c.new_values.ensures at c.write_group.ensures)
