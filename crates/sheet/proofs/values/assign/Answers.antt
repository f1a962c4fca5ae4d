-- `assign` meets its contract: a fact that is taken is written, and none is left where none comes. Assumes nothing.
use mathlib.Core.Path.{sym, ◌∙◌}
use Rattle.sheet.proofs.AssignLaws.{assign_none, assign_first}
use Rattle.sheet.proofs.values.assign.Goals as goal

pub loop-fact-preserved : goal.loop-fact-preserved
loop-fact-preserved g c =
    let laws : _ = g.met.F.Facts in
    ((laws.goes_on _, laws.ends _), rw c.put_fact.ensures (sym (assign_first _ _ _ _ (laws.gives _ _ _ c.in-Some.ensures.steps)) ∙ c.loop-fact.invariant.1))

pub returns : goal.returns
returns g c =
    let whole : _ = sym (assign_none _ _ (g.met.F.Facts.gives _ _ _ c.in-None.ensures.steps).0) ∙ c.loop-fact.invariant.1 in
    rw (← c.into_iter-fact-iterator.ensures.into_iter_gives) whole
