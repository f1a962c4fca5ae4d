-- `raise_row` meets its contract. The loop's invariant: raising the flags of the facts that are left makes of the flags what raising all makes. Assumes nothing.
use mathlib.Core.Path.{◌≡◌}
use Rattle.sheet.specs.Between.Group.{group_left}
use Rattle.landmark.specs.Between.Rows.{row_raised}
use Rattle.landmark.proofs.rows.raise_row.Given as goal

abbrev pub invariant-loop-fact : goal.invariant-loop-fact
invariant-loop-fact l = (goal.iterator-loop-fact.can_next l._fact-iterator × goal.iterator-loop-fact.is_finite l._fact-iterator)
    × (row_raised l.rows l.from (group_left l._fact-iterator) l.flags ≡ row_raised l.rows l.initial.from (group_left l.initial._fact-iterator) l.initial.flags)
