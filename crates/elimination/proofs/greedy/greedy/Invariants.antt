-- `greedy` meets its contract. The loop's invariant: the rounds that are left lead to what all rounds lead to. Assumes nothing.
use Prim.Native.Nat.{◌-◌}
use lib.ListN.{length}
use Rattle.elimination.proofs.GreedyLaws.{Rounding}
use Rattle.elimination.proofs.greedy.greedy.Given as goal

abbrev pub invariant-loop-rounds : goal.invariant-loop-rounds
invariant-loop-rounds l = Rounding l.words l.plan l._rounds l.flags
