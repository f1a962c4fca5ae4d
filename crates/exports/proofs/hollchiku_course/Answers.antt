-- `hollchiku_course` meets its contract: what is written is what the service answers. Assumes nothing.
use Rattle.exports.proofs.LentLaws.{lent_course}
use Rattle.exports.proofs.hollchiku_course.Goals as goal

pub returns : goal.returns
returns c = lent_course _ _ _ _ _ _ _ _ c.plan_course.ensures c.write_counted.ensures
