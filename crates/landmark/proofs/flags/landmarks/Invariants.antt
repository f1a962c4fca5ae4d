-- `landmarks` meets its contract. The loop's invariant: the flags are those of as many passes as were made. Assumes nothing.
use Rattle.landmark.proofs.FlagLaws.{Searching}
use Rattle.landmark.proofs.flags.landmarks.Given as goal

abbrev pub invariant-loop : goal.invariant-loop
invariant-loop l = Searching l.words l.plan l.n l.counter l.flags
