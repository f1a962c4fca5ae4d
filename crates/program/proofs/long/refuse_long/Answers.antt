-- `refuse_long` meets its contract: the task is refused, or passes and the plan is. Assumes nothing.
use mathlib.Core.Path.{sym}
use Rattle.program.proofs.LongLaws.{long_refused, long_passed}
use Rattle.program.proofs.long.refuse_long.Goals as goal

pub returns-in-Err : goal.returns-in-Err
returns-in-Err c = sym (long_refused _ _ c.in-Err.ensures)

pub returns-in-Ok : goal.returns-in-Ok
returns-in-Ok c = sym (long_passed _ c.in-Ok.ensures)
