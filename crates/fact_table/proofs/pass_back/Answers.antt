-- `pass_back` meets its contract: one stamp, or both. Assumes nothing.
use Rattle.fact_table.specs.Between.Tables.{passed_back}
use Rattle.fact_table.proofs.pass_back.Goals as goal

pub returns-then-flagged : goal.returns-then-flagged
unfolding passed_back
returns-then-flagged c = rw (c.if-flagged.true, ← c.facts.ensures, ← c.facts-then-flagged.ensures, ← c.stamp.ensures) c.stamp-then-flagged.ensures

pub returns-else-flagged : goal.returns-else-flagged
unfolding passed_back
returns-else-flagged c = rw (c.if-flagged.false, ← c.facts.ensures) c.stamp.ensures
