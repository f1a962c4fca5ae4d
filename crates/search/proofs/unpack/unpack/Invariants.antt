-- `unpack` meets its contract. The loop's invariant: the flags of the steps before the index are unpacked. Assumes nothing.
use Rattle.search.proofs.UnpackLaws.{Unpacking}
use Rattle.search.proofs.unpack.unpack.Given as goal

abbrev pub invariant-loop-i : goal.invariant-loop-i
invariant-loop-i l = Unpacking l.flags l.bits l.up-items l.left l.i
