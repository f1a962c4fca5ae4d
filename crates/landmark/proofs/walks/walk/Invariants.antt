-- `walk` meets its contract. The loop's invariant: what is left of the walk makes of the tables what all of it makes of the first. Assumes nothing.
use Rattle.landmark.proofs.WalkLaws.{Walking}
use Rattle.landmark.proofs.walks.walk.Given as goal

abbrev pub invariant-loop-i : goal.invariant-loop-i
invariant-loop-i l = Walking l.words l.plan l.flags l.initial.traces l.initial.latest l.initial.rows l.i l.traces l.latest l.rows
