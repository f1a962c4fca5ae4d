-- `hollchiku_marks` meets its contract: what is written is what the service answers. Assumes nothing.
use Rattle.exports.proofs.LentLaws.{lent_marks}
use Rattle.exports.proofs.hollchiku_marks.Goals as goal

pub returns-in-Ok : goal.returns-in-Ok
returns-in-Ok c = lent_marks _ _ _ _ _ _ _ _ c.in-Ok.ensures c.put_all.ensures c.write_verdict.ensures

pub returns-in-Err : goal.returns-in-Err
returns-in-Err c = lent_marks _ _ _ _ _ _ _ _ c.in-Err.ensures c.put_all-in-Err.ensures c.write_verdict-in-Err.ensures
