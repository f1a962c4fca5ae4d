-- `raise_row` meets its contract: the flag of a fact that is taken is raised, and none is left where none comes. Assumes nothing.
use mathlib.Core.Path.{sym, ◌∙◌}
use Rattle.landmark.proofs.RowLaws.{raised_over, raised_next, raised_past}
use Rattle.landmark.proofs.rows.raise_row.Goals as goal

pub loop-fact-preserved-then-from-rows : goal.loop-fact-preserved-then-from-rows
loop-fact-preserved-then-from-rows c =
    ((tt, tt), rw c.put.ensures (sym (raised_next _ _ _ _ _ _ _ c.in-Some.ensures.steps c.get_or.ensures) ∙ c.loop-fact.invariant.1))

pub loop-fact-preserved : goal.loop-fact-preserved
loop-fact-preserved c =
    ((tt, tt), rw c.put.ensures (sym (raised_past _ _ _ _ _ _ _ c.in-Some.ensures.steps c.get_or.ensures c.if-from-rows.false) ∙ c.loop-fact.invariant.1))

pub returns : goal.returns
returns c =
    rw (← c.into_iter-fact-iterator.ensures.into_iter_gives)
    (sym (raised_over _ _ _ _ c.in-None.ensures.steps.0) ∙ c.loop-fact.invariant.1)
