-- `find_fitting` meets its contract. The loop's invariant: one of those that are left fits just where one of all does. Assumes nothing.
use mathlib.Core.Path.{◌≡◌}
use Rattle.sheet.specs.Between.Effects.{effects_left}
use Rattle.conflict.specs.Between.Clash.{some_fits}
use Rattle.conflict.proofs.clash.find_fitting.Given as goal

abbrev pub invariant-loop-effect : goal.invariant-loop-effect
invariant-loop-effect l = (goal.iterator-loop-effect.can_next l.effect-iterator × goal.iterator-loop-effect.is_finite l.effect-iterator)
    × (some_fits l.table l.wanted (effects_left l.effect-iterator) ≡ some_fits l.table l.wanted (effects_left l.initial.effect-iterator))
