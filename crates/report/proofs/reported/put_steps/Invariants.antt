-- `put_steps` meets its contract. The loop's invariant: the lines of the kept steps passed are put. Assumes nothing.
use Rattle.report.proofs.ReportLaws.{StepsPut}
use Rattle.report.proofs.reported.put_steps.Given as goal

abbrev pub invariant-loop-i : goal.invariant-loop-i
invariant-loop-i l = StepsPut l.words l.plan l.mask l.initial.page l.i l.page
