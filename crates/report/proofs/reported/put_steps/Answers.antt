-- `put_steps` meets its contract. The loop's invariant: the lines of the kept steps passed are put. Assumes nothing.
use native.Mathlib.Omega.{arith}
use mathlib.Core.Path.{◌≡◌, sym, ◌∙◌}
use lib.ListN.{length}
use Rattle.report.proofs.ReportLaws.{steps_nothing, steps_kept, steps_struck, steps_all}
use Rattle.report.proofs.reported.put_steps.Goals.{then-keeps, else-keeps}
use Rattle.report.proofs.reported.put_steps.Goals as goal

pub loop-i-init : goal.loop-i-init
loop-i-init c = steps_nothing _ _ _ _

pub loop-i-preserved : goal.loop-i-preserved
loop-i-preserved c =
    let i = c.loop-i.i in
    elim c.if-keeps.branch [
      | then-keeps w ↦ rw w.page-is (steps_kept _ _ _ _ _ i c.loop-i-test.true c.loop-i.invariant (sym c.keeps.ensures ∙ w.if-keeps.true) w.put_step.ensures)
      | else-keeps w ↦ rw w.page-is (steps_struck _ _ _ _ _ i c.loop-i-test.true c.loop-i.invariant (sym c.keeps.ensures ∙ w.if-keeps.false))
    ]

pub returns : goal.returns
returns c =
    let all : c.loop-i.i ≡ length c.args.plan.now = omega arith in
    steps_all _ _ _ _ c.loop-i.i _ all c.loop-i.invariant
