-- `stamp` meets its contract: a fact that is taken is laid, and none is left where none comes. Assumes nothing.
use mathlib.Core.Path.{refl, sym, ◌∙◌}
use Rattle.choice_rows.proofs.StampRowLaws.{laid_all_none, laid_all_first, row_filled}
use Rattle.choice_rows.proofs.rows.stamp.Goals as goal

pub loop-fact-init : goal.loop-fact-init
loop-fact-init g c =
    let laws : _ = g.met.F.Facts in
    ((laws.goes_on _, laws.ends _), refl)

pub loop-fact-preserved : goal.loop-fact-preserved
loop-fact-preserved g c =
    let laws : _ = g.met.F.Facts in (
      (laws.goes_on _, laws.ends _),
      rw c.lay.ensures (sym (laid_all_first _ _ _ _ _ (laws.gives _ _ _ c.in-Some.ensures.steps))) ∙ c.loop-fact.invariant.1,
    )

pub returns : goal.returns
returns g c =
    let whole : _ = sym (laid_all_none _ _ _ (g.met.F.Facts.gives _ _ _ c.in-None.ensures.steps).0) ∙ c.loop-fact.invariant.1 in
    rw (← c.into_iter-fact-iterator.ensures.into_iter_gives) (whole ∙ row_filled _ _ _ c.ranges.bits.fits)
