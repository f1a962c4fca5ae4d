-- `start` meets its contract. The loop's invariant: the words of the first variables are written. Assumes nothing.
use Rattle.trace.proofs.TraceLaws.{starting_none, starting_more}
use Rattle.trace.proofs.traces.start.Goals as goal

pub loop-v-init : goal.loop-v-init
loop-v-init c = starting_none _

pub loop-v-preserved : goal.loop-v-preserved
loop-v-preserved c = starting_more _ _ _ c.loop-v.invariant c.loop-v-test.true
