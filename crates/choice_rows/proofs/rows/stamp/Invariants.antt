-- `stamp` meets its contract. The loop's invariant: laying what is left makes of the row what laying all makes. Assumes nothing.
use mathlib.Core.Path.{◌≡◌}
use Rattle.choice_rows.specs.Between.Rows.{laid_all}
use Rattle.choice_rows.proofs.rows.stamp.Given as goal

abbrev pub invariant-loop-fact : goal.invariant-loop-fact
invariant-loop-fact g l = ((goal.iterator-loop-fact g).can_next l.fact-iterator × (goal.iterator-loop-fact g).is_finite l.fact-iterator)
    × (laid_all l.row l.left (g.F.Facts.facts_left l.fact-iterator) ≡ laid_all l.initial.row l.bits (g.F.Facts.facts_left l.initial.fact-iterator))
