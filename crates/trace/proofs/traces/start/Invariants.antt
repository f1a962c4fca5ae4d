-- `start` meets its contract. The loop's invariant: the words of the first variables are written. Assumes nothing.
use Rattle.trace.proofs.TraceLaws.{Starting}
use Rattle.trace.proofs.traces.start.Given as goal

abbrev pub invariant-loop-v : goal.invariant-loop-v
invariant-loop-v l = Starting l.value-items l.latest l.v
