-- `note` meets its contract: the support of a fact that is taken is noted, and none is left where none comes. Assumes nothing.
use mathlib.Core.Path.{sym, ◌∙◌}
use Rattle.landmark.proofs.RowLaws.{noted_over, noted_next, noted_past}
use Rattle.landmark.proofs.rows.note.Goals as goal

pub loop-fact-preserved-then-to-rows : goal.loop-fact-preserved-then-to-rows
loop-fact-preserved-then-to-rows c =
    ((tt, tt), rw c.put.ensures (sym (noted_next _ _ _ _ _ _ _ c.in-Some.ensures.steps c.get_or.ensures) ∙ c.loop-fact.invariant.1))

pub loop-fact-preserved : goal.loop-fact-preserved
loop-fact-preserved c = (
  (tt, tt),
  rw c.put.ensures (sym (noted_past _ _ _ _ _ _ _ c.in-Some.ensures.steps c.get_or.ensures (rw c.put.ensures at c.if-to-rows.false)) ∙ c.loop-fact.invariant.1),
)

pub returns : goal.returns
returns c =
    rw (← c.into_iter-fact-iterator.ensures.into_iter_gives)
    (sym (noted_over _ _ _ _ c.in-None.ensures.steps.0) ∙ c.loop-fact.invariant.1)
