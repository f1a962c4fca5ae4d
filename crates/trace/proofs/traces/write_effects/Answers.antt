-- `write_effects` meets its contract, by whether the step is marked. Assumes nothing.
use Rattle.trace.proofs.TraceLaws.{wrote_marked, wrote_unmarked}
use Rattle.trace.proofs.traces.write_effects.Goals as goal

pub returns-then-marked : goal.returns-then-marked
returns-then-marked c = wrote_marked _ _ _ _ _ _ _ c.note_effects.ensures c.if-marked.true _ c.mark_effects.ensures

pub returns-else-marked : goal.returns-else-marked
returns-else-marked c = wrote_unmarked _ _ _ _ _ _ _ c.note_effects.ensures c.if-marked.false
