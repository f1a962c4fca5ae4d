-- `put` meets its contract: the check of the plan, and what is printed of its answer. Assumes nothing.
use Rattle.validate.proofs.ValidateLaws.{checked_tally, checked_refusal}
use lib.Dec.{lit≤}
use Rattle.std.proofs.Common.{ap}
use Rattle.plan.specs.Checked.{answer_in}
use Rattle.validate.proofs.check.CheckingService.put.Goals as goal

pub returns-in-Ok : goal.returns-in-Ok
returns-in-Ok c = checked_tally _ _ _ _ c.check_plan.ensures _ (ap answer_in c.in-Ok.is) c.put_tally.ensures.puts (c.put_tally.ensures.short_line (lit≤ tt))

pub returns-in-Err : goal.returns-in-Err
returns-in-Err c = checked_refusal _ _ _ _ c.check_plan.ensures _ (ap answer_in c.in-Err.is) c.put_refusal.ensures.puts c.put_refusal.ensures.refusal_len_bound
