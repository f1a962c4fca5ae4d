-- `note_effects` meets its contract: a fact that is taken is noted, and none is left where none comes. Assumes nothing.
use mathlib.Core.Path.{sym, ◌∙◌}
use Rattle.trace.proofs.TraceLaws.{traces_none, traces_first}
use Rattle.trace.proofs.traces.note_effects.Goals as goal

pub loop-fact-preserved : goal.loop-fact-preserved
loop-fact-preserved c = ((tt, tt), rw c.note_fact.ensures (sym (traces_first _ _ _ _ _ _ c.in-Some.ensures.steps) ∙ c.loop-fact.invariant.1))

pub returns : goal.returns
returns c =
    let whole : _ = sym (traces_none _ _ _ _ c.in-None.ensures.steps.0) ∙ c.loop-fact.invariant.1 in
    rw (← c.facts-fact-items.ensures, ← c.into_iter-fact-iterator.ensures.into_iter_gives) whole
