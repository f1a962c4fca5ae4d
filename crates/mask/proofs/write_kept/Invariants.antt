-- `write_kept` meets its contract. The loop's invariant: with the words that are left still to be written out, the output is that of all words. Assumes nothing.
use Prim.Native.Nat.{◌+◌, ◌-◌, ◌*◌, ◌≤◌}
use mathlib.Core.Path.{◌≡◌}
use lib.ListN.{length}
use lib.Seq.{sets}
use Rattle.mask.specs.Mask.{mask_length, word_bits}
use Rattle.access.specs.Between.Places.{at_places}
use Rattle.mask.specs.Between.Places.{kept_by_words}
use Rattle.mask.proofs.WriteLaws.{places_left}
use Rattle.mask.proofs.write_kept.Given as goal

abbrev pub invariant-loop-k : goal.invariant-loop-k
invariant-loop-k l =
    (sets l.out l.to (at_places l.plan (places_left l.word-items l.k)) ≡ sets l.initial.out 0 (kept_by_words l.word-items l.plan))
    × (l.to + length (places_left l.word-items l.k) ≡ length (kept_by_words l.word-items l.plan))
    × (l.to ≤ l.k * word_bits)
    × (l.k ≤ mask_length)
    × (length l.word-items ≡ mask_length)
    × (length l.out ≡ length l.initial.out)
