-- `until` meets its contract. Assumes nothing.
use Rattle.trace.proofs.TraceLaws.{until_same, until_other}
use Rattle.trace.proofs.traces.until.Goals as goal

pub returns-then-get_or-fact : goal.returns-then-get_or-fact
returns-then-get_or-fact c =
    let row : _ = c.variable-v.ensures.0 in
    until_same _ _ _ _ (rw row at c.get_or.ensures) c.if-get_or-fact.true (rw row at c.get_or-then-get_or-fact.ensures)

pub returns-else-get_or-fact : goal.returns-else-get_or-fact
returns-else-get_or-fact c =
    let row : _ = c.variable-v.ensures.0 in
    until_other _ _ _ _ (rw row at c.get_or.ensures) c.if-get_or-fact.false (rw row at c.get_or-else-get_or-fact.ensures)
