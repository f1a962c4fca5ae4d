-- `bits_behind` meets its contract. The loop's invariant: words and tables are those of the steps from i on. Assumes nothing.
use Rattle.fact_bits.proofs.BitWalkLaws.{BehindFrom}
use Rattle.fact_bits.proofs.bits.bits_behind.Given as goal

abbrev pub invariant-loop-i : goal.invariant-loop-i
invariant-loop-i l = BehindFrom l.words l.plan l.flags l.i l.behind l.wanting l.unneeded
