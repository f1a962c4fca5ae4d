-- `support` meets its contract. Assumes nothing.
use Rattle.trace.proofs.TraceLaws.{supporting_since, supporting_none}
use Rattle.trace.proofs.traces.support.Goals as goal

pub returns-then-last-until : goal.returns-then-last-until
returns-then-last-until c = supporting_since _ _ _ c.if-last-until.true

pub returns-else-last-until : goal.returns-else-last-until
returns-else-last-until c = supporting_none _ _ _ c.if-last-until.false
