-- `write_word` meets its contract. The loop's invariant: with the ones that are left still to be written, the output is that of all the ones; a turn writes the
-- lowest and clears it, so that the word falls. Assumes nothing.
use Prim.Native.Nat.{◌+◌, ◌^◌, ◌<◌}
use mathlib.Core.Path.{◌≡◌}
use lib.ListN.{length}
use lib.Seq.{sets}
use Rattle.access.specs.Bits.{word_bits}
use Rattle.access.specs.Between.Places.{ones_at, at_places}
use Rattle.access.proofs.write_word.Given as goal

abbrev pub invariant-loop-rest : goal.invariant-loop-rest
invariant-loop-rest l =
    (sets l.out l.to (at_places l.words (ones_at l.from word_bits l.rest)) ≡ sets l.initial.out l.at (at_places l.words (ones_at l.from word_bits l.bits)))
    × (l.to + length (ones_at l.from word_bits l.rest) ≡ l.at + length (ones_at l.from word_bits l.bits))
    × (l.rest < 2 ^ word_bits)
    × (length l.out ≡ length l.initial.out)

abbrev pub decreases-loop-rest : goal.decreases-loop-rest
decreases-loop-rest l = l.rest
