-- `close` meets its contract. The loop's invariant: what is left of the walk makes of the flags what all of it makes of the first. Assumes nothing.
use Rattle.landmark.proofs.CloseLaws.{Closing}
use Rattle.landmark.proofs.walks.close.Given as goal

abbrev pub invariant-loop-i : goal.invariant-loop-i
invariant-loop-i l = Closing l.words l.plan l.rows l.initial.flags l.i l.flags
