-- `write_actions` meets its contract. The loop's invariant: the parts of the operators that are left, laid over the sheet as it is now, make what all of them
-- make; and no index is far. Assumes nothing.
use native.Mathlib.Omega.{arith}
use Rattle.meaning.specs.Between.Sections.{meaning}
use Rattle.task_sheet.proofs.PartsLaws.{actions_start, actions_on, actions_unfit, actions_over}
use Rattle.task_sheet.proofs.PartLaws.{part_written}
use Rattle.task_sheet.proofs.parts.write_actions.Goals as goal

pub loop-a-init : goal.loop-a-init
loop-a-init c =
    record { laying = rw c.first_operator-i.ensures.0 (actions_start _ _ _ _ _); behind = c.requires.1; near = omega arith; index = omega arith }

pub returns-in_err-end : goal.returns-in_err-end
unfolding meaning
returns-in_err-end c =
    rw c.from_residual.ensures
    (actions_unfit _ _ _ _ _ (omega (arith, c.operators-a-end.ensures.0, c.loop-a-test.true)) c.loop-a.invariant.laying c.in_err-end.ensures)

pub loop-a-preserved : goal.loop-a-preserved
loop-a-preserved c =
    let here = c.loop-a.invariant in
    let part = part_written c.in_ok-end.ensures in
    record {
      laying =
          actions_on _ _ _ _ _ (omega (arith, c.operators-a-end.ensures.0, c.loop-a-test.true)) here.laying c.in_ok-end.ensures here.behind _ c.write_pair.ensures
          _ c.end-i.ensures.0;
      behind = omega (arith, here.behind, part.ends);
      near = omega (arith, here.near, part.ends, part.few);
      index = omega (arith, here.index, c.end-i.ensures.1);
    }

pub returns : goal.returns
unfolding meaning
returns c = actions_over _ _ _ _ _ _ _ _ _ (omega (arith, c.operators-a-end.ensures.0, c.loop-a-test.false)) c.loop-a.invariant.laying
