-- `assign` meets its contract. The loop's invariant: writing what is left makes of the values what writing all makes. Assumes nothing.
use mathlib.Core.Path.{◌≡◌}
use Rattle.sas.specs.Plan.{assign}
use Rattle.sheet.proofs.values.assign.Given as goal

abbrev pub invariant-loop-fact : goal.invariant-loop-fact
invariant-loop-fact g l = ((goal.iterator-loop-fact g).can_next l.fact-iterator × (goal.iterator-loop-fact g).is_finite l.fact-iterator)
    × (assign l.values (g.F.Facts.facts_left l.fact-iterator) ≡ assign l.initial.values (g.F.Facts.facts_left l.initial.fact-iterator))
