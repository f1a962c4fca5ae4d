-- `hollchiku_moves` meets its contract: what is written is what the service answers. Assumes nothing.
use Rattle.exports.proofs.LentLaws.{lent_moves}
use Rattle.exports.proofs.hollchiku_moves.Goals as goal

pub returns : goal.returns
returns c = lent_moves _ _ _ _ _ _ _ _ _ c.plan_moves-given.ensures c.write_answer.ensures
