-- `follow` meets its contract. The loop's invariant: from the next step on the walk writes what the whole walk writes. Assumes nothing.
use Prim.Native.Nat.{◌-◌}
use lib.ListN.{length}
use Rattle.course.proofs.CourseLaws.{Going}
use Rattle.course.proofs.follow.Given as goal

abbrev pub invariant-loop-i : goal.invariant-loop-i
invariant-loop-i l = Going l.words l.plan l.initial.state l.initial.states l.state l.states l.at l.i
