-- `mark_fact` meets its contract: three words of the variable are put. Assumes nothing.
use Rattle.trace.proofs.TraceLaws.{latest_put}
use Rattle.trace.proofs.traces.mark_fact.Goals as goal

pub returns : goal.returns
returns c =
    let row : _ = c.variable-v.ensures.0 in
    latest_put _ _ _ _ _ _ _ c.until-seen.ensures (rw row at c.put.ensures) (rw row at c.put-2.ensures) (rw row at c.put-3.ensures)
