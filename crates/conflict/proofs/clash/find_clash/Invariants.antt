-- `find_clash` meets its contract. The loop's invariant: one of those that are left clashes just where one of all does, and `behind` is ahead of them. Assumes nothing.
use mathlib.Core.Path.{◌≡◌}
use Rattle.sheet.specs.Between.Group.{group_left}
use Rattle.sheet.specs.Between.Effects.{effects_left}
use Rattle.conflict.specs.Between.Clash.{some_clash}
use Rattle.conflict.proofs.ClashLaws.{Ahead}
use Rattle.conflict.proofs.clash.find_clash.Given as goal

abbrev pub invariant-loop-effect : goal.invariant-loop-effect
invariant-loop-effect l = (goal.iterator-loop-effect.can_next l.effect-iterator × goal.iterator-loop-effect.is_finite l.effect-iterator)
    × (some_clash (group_left l.precondition) (effects_left l.effect-iterator) ≡ some_clash (group_left l.precondition) (effects_left l.initial.effect-iterator))
    × Ahead (effects_left l.effect-iterator) (effects_left l.behind)
