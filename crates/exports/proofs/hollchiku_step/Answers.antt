-- `hollchiku_step` meets its contract: what is written back and what is answered are those of one step in the state that was lent. Assumes nothing.
use Rattle.exports.proofs.LentLaws.{lent_steps}
use Rattle.exports.proofs.hollchiku_step.Goals as goal

pub returns : goal.returns
returns c =
    lent_steps _ _ _ _ _ _ _ _ _ c.read_state.ensures
    c.step-stepped.ensures
    c.put_all.ensures c.write_verdict.ensures
