-- `pack` meets its contract. The loop's invariant: what is packed and what is left make the whole. Assumes nothing.
use Rattle.fact_bits.proofs.BitPackLaws.{Packing}
use Rattle.fact_bits.proofs.bits.pack.Given as goal

abbrev pub invariant-loop-fact : goal.invariant-loop-fact
invariant-loop-fact g l = ((goal.iterator-loop-fact g).can_next l.fact-iterator × (goal.iterator-loop-fact g).is_finite l.fact-iterator)
    × Packing l.table (g.F.Facts.facts_left l.initial.fact-iterator) (g.F.Facts.facts_left l.fact-iterator) l.bits l.bit
