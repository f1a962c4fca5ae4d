-- `pack` meets its contract. The loop's invariant: what is packed and what is left make the whole. Assumes nothing.
use mathlib.Core.Path.{sym, ◌∙◌}
use mathlib.Core.Bool.{true, false}
use Rattle.fact_bits.proofs.BitPackLaws.{packing_start, packing_more, packing_end}
use Rattle.fact_bits.proofs.bits.pack.Goals.{then-has, else-has}
use Rattle.fact_bits.proofs.bits.pack.Goals as goal

pub loop-fact-init : goal.loop-fact-init
loop-fact-init g c =
    let laws : _ = g.met.F.Facts in
    ((laws.goes_on _, laws.ends _), packing_start _ _)

pub loop-fact-preserved : goal.loop-fact-preserved
loop-fact-preserved g c =
    let laws : _ = g.met.F.Facts in
    let packs : _ = packing_more _ _ _ _ _ c.loop-fact.invariant.1 _ _ (laws.gives _ _ _ c.in-Some.ensures.steps) in (
      (laws.goes_on _, laws.ends _),
      elim c.if-has.branch [
        | then-has w ↦ rw w.bits-is (packs true (sym w.if-has.true ∙ c.has.ensures))
        | else-has w ↦ rw w.bits-is (packs false (sym w.if-has.false ∙ c.has.ensures))
      ],
    )

pub returns : goal.returns
returns g c = rw (← c.into_iter-fact-iterator.ensures.into_iter_gives) (packing_end _ _ _ _ _ c.loop-fact.invariant.1 (g.met.F.Facts.gives _ _ _ c.in-None.ensures.steps).0)
