-- `stamp` meets its contract. The loop's invariant: stamping what is left makes of the table what stamping all makes. Assumes nothing.
use Rattle.fact_table.specs.Between.Tables.{stamped}
use mathlib.Core.Path.{◌≡◌}
use Rattle.fact_table.proofs.stamp.Given as goal

abbrev pub invariant-loop-fact : goal.invariant-loop-fact
invariant-loop-fact g l = ((goal.iterator-loop-fact g).can_next l.fact-iterator × (goal.iterator-loop-fact g).is_finite l.fact-iterator)
    × (stamped l.table (g.F.Facts.facts_left l.fact-iterator) l.x ≡ stamped l.initial.table (g.F.Facts.facts_left l.initial.fact-iterator) l.x)
