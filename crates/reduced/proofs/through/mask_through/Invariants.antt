-- `mask_through` meets its contract. The loop's invariant: the flags before the index are by both reductions, and so many steps are kept by the first. The measure
-- is the number of steps left. Assumes nothing.
use Rattle.reduced.proofs.ThroughLaws.{Through}
use Rattle.reduced.proofs.through.mask_through.Given as goal

abbrev pub invariant-loop-i : goal.invariant-loop-i
invariant-loop-i l = Through l.flags l.second.words l.both l.left l.i
