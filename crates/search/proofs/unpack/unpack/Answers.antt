-- `unpack` meets its contract. The loop's invariant: the flags of the steps before the index are unpacked. Assumes nothing.
use mathlib.Core.Path.{sym, ◌∙◌}
use Rattle.search.proofs.UnpackLaws.{unpacking_start, unpacking_flagged, unpacking_open}
use Rattle.search.proofs.unpack.unpack.Goals.{then-get_or, else-get_or}
use Rattle.search.proofs.unpack.unpack.Goals as goal

pub loop-i-init : goal.loop-i-init
loop-i-init c = unpacking_start _ _ c.ranges.bits.fits

pub loop-i-preserved : goal.loop-i-preserved
loop-i-preserved c =
    elim c.if-get_or.branch [
      | then-get_or w ↦ rw (w.left-is, w.up-items-is)
          (unpacking_flagged _ _ c.ranges.bits.fits _ _ _ c.loop-i.invariant c.loop-i-test.true (sym c.get_or.ensures ∙ w.if-get_or.true))
      | else-get_or w ↦ rw (w.left-is, w.up-items-is)
          (unpacking_open _ _ c.ranges.bits.fits _ _ _ c.loop-i.invariant c.loop-i-test.true (sym c.get_or.ensures ∙ w.if-get_or.false))
    ]
