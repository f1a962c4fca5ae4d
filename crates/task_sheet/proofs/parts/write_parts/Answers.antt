-- `write_parts` meets its contract: the ranges, the starting values, the goal and the operators, one behind the other, as far as they fit. Assumes nothing.
use mathlib.Core.Path.{refl}
use Rattle.task_sheet.proofs.PartsLaws.{goal_unfit, parts_laid}
use Rattle.task_sheet.proofs.parts.write_parts.Goals as goal

pub returns-in_err-actions : goal.returns-in_err-actions
returns-in_err-actions c = rw c.from_residual.ensures (goal_unfit c.args.x.now (rw c.goal.ensures at c.in_err-actions.ensures))

pub returns : goal.returns
returns c =
    parts_laid c.args.x.now _ c.variables-v.result c.operators.result _ _ _ c.variables-v.ensures.0 c.operators.ensures.0 refl refl refl
    (rw c.all.ensures at c.write_words.ensures) c.write_pair.ensures (rw c.all-2.ensures at c.write_words-2.ensures) c.write_pair-2.ensures _ _
    (rw c.goal.ensures at c.in_ok-actions.ensures) _ _ c.write_pair-3.ensures _ c.write_actions.ensures
