-- `write_acting` meets its contract. The loop's invariant: writing what is left makes of the state what writing all makes. Assumes nothing.
use mathlib.Core.Path.{◌≡◌}
use Rattle.sas.specs.Plan.{assign, acting}
use Rattle.sheet.specs.Between.Effects.{effects_left}
use Rattle.step.proofs.facts.write_acting.Given as goal

abbrev pub invariant-loop-effect : goal.invariant-loop-effect
invariant-loop-effect l = (goal.iterator-loop-effect.can_next l.effect-iterator × goal.iterator-loop-effect.is_finite l.effect-iterator)
    × (assign l.state (acting l.before (effects_left l.effect-iterator)) ≡ assign l.initial.state (acting l.before (effects_left l.initial.effect-iterator)))
