-- `note_effects` meets its contract. The loop's invariant: noting what is left makes of the traces what noting all makes. Assumes nothing.
use mathlib.Core.Path.{◌≡◌}
use Rattle.sheet.specs.Between.Effects.{written_left}
use Rattle.trace.specs.Between.Traces.{traces_wrote}
use Rattle.trace.proofs.traces.note_effects.Given as goal

abbrev pub invariant-loop-fact : goal.invariant-loop-fact
invariant-loop-fact l = (goal.iterator-loop-fact.can_next l.fact-iterator × goal.iterator-loop-fact.is_finite l.fact-iterator)
    × (traces_wrote l.at l.latest (written_left l.fact-iterator) l.traces ≡ traces_wrote l.at l.latest (written_left l.initial.fact-iterator) l.initial.traces)
