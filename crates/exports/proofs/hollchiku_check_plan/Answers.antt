-- `hollchiku_check_plan` meets its contract: what is written is what the check of the plan answers. Assumes nothing.
use Rattle.exports.proofs.LentLaws.{lent_checks}
use Rattle.exports.proofs.hollchiku_check_plan.Goals as goal

pub returns : goal.returns
returns c = lent_checks _ _ _ _ _ _ _ _ c.check_plan.ensures c.write_checked.ensures.end c.write_checked.ensures.answered
