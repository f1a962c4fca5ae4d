-- `note` meets its contract. The loop's invariant: noting the facts that are left makes of the rows what noting all makes. Assumes nothing.
use mathlib.Core.Path.{◌≡◌}
use Rattle.sheet.specs.Between.Group.{group_left}
use Rattle.landmark.specs.Between.Rows.{supports_noted}
use Rattle.landmark.proofs.rows.note.Given as goal

abbrev pub invariant-loop-fact : goal.invariant-loop-fact
invariant-loop-fact l = (goal.iterator-loop-fact.can_next l.fact-iterator × goal.iterator-loop-fact.is_finite l.fact-iterator)
    × (supports_noted l.traces l.to (group_left l.fact-iterator) l.rows ≡ supports_noted l.traces l.initial.to (group_left l.initial.fact-iterator) l.initial.rows)
