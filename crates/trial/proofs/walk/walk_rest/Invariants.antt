-- `walk_rest` meets its contract. The loop's invariant: from the next index on the walk ends as it was to end. Assumes nothing.
use mathlib.Core.Path.{◌≡◌}
use Prim.Native.Nat.{◌-◌}
use lib.ListN.{length}
use Rattle.trial.proofs.TrialWalkLaws.{Along}
use Rattle.trial.proofs.walk.walk_rest.Given as goal

abbrev pub invariant-loop-j : goal.invariant-loop-j
invariant-loop-j l =
    (length l.state ≡ length l.initial.state) × Along l.words l.plan l.i l.initial.flags l.initial.state l.initial.tally l.j l.flags l.state l.tally
