-- `mark_effects` meets its contract. The loop's invariant: marking what is left makes of the words what marking all makes. Assumes nothing.
use mathlib.Core.Path.{◌≡◌}
use Rattle.sas.specs.Plan.{unconditional}
use Rattle.sheet.specs.Between.Effects.{effects_left}
use Rattle.trace.specs.Between.Traces.{latest_each}
use Rattle.trace.proofs.traces.mark_effects.Given as goal

abbrev pub invariant-loop-effect : goal.invariant-loop-effect
invariant-loop-effect l = (goal.iterator-loop-effect.can_next l.effect-iterator × goal.iterator-loop-effect.is_finite l.effect-iterator)
    × (latest_each l.at (unconditional (effects_left l.effect-iterator)) l.latest ≡ latest_each l.at (unconditional (effects_left l.initial.effect-iterator)) l.initial.latest)
