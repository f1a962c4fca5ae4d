-- `note_fact` meets its contract: the step is the fact's last writer already, or becomes it. Assumes nothing.
use Rattle.trace.proofs.TraceLaws.{wrote_already, wrote_new}
use Rattle.trace.proofs.traces.note_fact.Goals as goal

pub returns-then-last-at : goal.returns-then-last-at
returns-then-last-at c = wrote_already _ _ _ _ _ c.get_or-last.ensures c.if-last-at.true

pub returns : goal.returns
returns c =
    wrote_new _ _ _ _ _ c.get_or-last.ensures c.if-last-at.false _ _ _ _ c.until-seen.ensures c.support.ensures c.put.ensures
    c.put-2.ensures
