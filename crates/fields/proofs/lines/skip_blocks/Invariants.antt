-- `skip_blocks` meets its contract. The loop's invariant: what stands behind the first line stays. The measure is the number of bytes left. Assumes nothing.
use Prim.Native.Nat.{◌≤◌}
use mathlib.Core.Path.{◌≡◌}
use lib.ListN.{length}
use Rattle.fields.specs.Between.Fields.{lines_of}
use Rattle.fields.proofs.lines.skip_blocks.Given as goal

abbrev pub invariant-loop-block : goal.invariant-loop-block
invariant-loop-block l = ((lines_of l.rest).others ≡ (lines_of l.bytes).others) × (length l.rest ≤ length l.bytes)

abbrev pub decreases-loop-block : goal.decreases-loop-block
decreases-loop-block l = length l.rest
