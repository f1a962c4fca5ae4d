-- `have_neighbours` meets its contract. The loop's invariant: one of those that are left has a neighbour just where one of all has. Assumes nothing.
use mathlib.Core.Path.{◌≡◌}
use Rattle.sheet.specs.Between.Effects.{effects_left}
use Rattle.conflict.specs.Between.Clash.{neighbours}
use Rattle.conflict.proofs.clash.have_neighbours.Given as goal

abbrev pub invariant-loop-effect : goal.invariant-loop-effect
invariant-loop-effect l = (goal.iterator-loop-effect.can_next l.effect-iterator × goal.iterator-loop-effect.is_finite l.effect-iterator)
    × (neighbours l.before (effects_left l.effect-iterator) ≡ neighbours l.initial.before (effects_left l.initial.effect-iterator))
