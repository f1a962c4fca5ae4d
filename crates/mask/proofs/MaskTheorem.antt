-- A mask tells a reduction: bit i of its words is flag i, its ones are the kept steps, and what is written out by it is the list that the reduction leaves.
-- Assumes nothing.
use Prim.Native.Nat.{ℕ, ◌+◌, ◌*◌, ◌/◌, ◌%◌, ◌^◌, ◌≤◌, ◌<◌}
use native.Mathlib.Nat.{zero-add}
use native.Mathlib.Omega.{arith}
use mathlib.Core.Path.{◌≡◌, refl, sym, ◌∙◌}
use mathlib.Core.Bool.{Bool, true, false}
use mathlib.Core.List.{List, ◌++◌}
use lib.ListN.{length, get_or, drop, get_or-eq_default}
use lib.Seq.{sets, sets-eq, get_or-take, get_or-drop}
use lib.Dec.{ltb, eqb}
use borrow.Author.Tests.{ltb-true, ltb-false}
use Rattle.reduction.specs.Reduction.{Reduction, kept, count}
use Rattle.reduction.proofs.ReductionLaws.{kept_length}
use Rattle.mask.specs.Mask.{mask_length, word_bits, mask_bits, digit, words_of, mask_words, ones_of, bit_up}
use Rattle.mask.specs.Between.Places.{kept_by_words}
use Rattle.mask.proofs.MaskWordLaws.{binary_bit}
use Rattle.mask.proofs.BitLaws.{none_up}
use Rattle.mask.proofs.MaskLaws.{words_at, words_ones}
use Rattle.mask.proofs.KeptWordLaws.{words_keep}

is_one : (b : Bool) → eqb (digit b) 1 ≡ b
is_one true = refl
is_one false = refl

module _ (m : Reduction) where
  -- "bit (i − 1) mod 64 of word (i − 1) div 64 is one when step i is kept; all other bits are zero", at each bit of the mask
  pub bit_is_flag : (i : ℕ) → i < mask_bits → get_or (mask_words m) (i / word_bits) 0 / 2 ^ (i % word_bits) % 2 ≡ digit (get_or m i false)
  unfolding mask_words
  bit_is_flag i h =
      let word : i / word_bits < mask_length = omega arith in
      let bit : i % word_bits < word_bits = omega arith in
      let whole : word_bits * (i / word_bits) + i % word_bits ≡ i = omega arith in
      rw (words_at mask_length (i / word_bits) m word, binary_bit, get_or-take word_bits _ (i % word_bits) false bit, get_or-drop, whole)

  -- so a step is read as kept just where its flag is up, and past the bits of the mask none is
  pub up_is_flag : length m ≤ mask_bits → (i : ℕ) → bit_up (mask_words m) i ≡ get_or m i false
  unfolding bit_up mask_words words_of
  up_is_flag few i = by_case (ltb i mask_bits) refl
    where
      by_case : (b : Bool) → ltb i mask_bits ≡ b → bit_up (mask_words m) i ≡ get_or m i false
      by_case true e = rw (bit_is_flag i (ltb-true i mask_bits e)) (is_one (get_or m i false))
      by_case false e =
          let past : mask_bits ≤ i = ltb-false i mask_bits e in
          sym (none_up (mask_words m) i refl (omega arith)) ∙ sym (get_or-eq_default m false (omega arith))

  -- "The number of kept steps is the number of ones in the mask."
  pub ones_are_kept : length m ≤ mask_bits → ones_of (mask_words m) ≡ count m
  unfolding mask_words
  ones_are_kept few = words_ones mask_length m few

module _ (m : Reduction) (plan : List ℕ) (few : length m ≤ mask_bits) (fits : length m ≡ length plan) where
  -- what the words of a reduction of a plan keep is the list that it leaves
  pub mask_keeps : kept_by_words (mask_words m) plan ≡ kept m plan
  unfolding kept_by_words mask_words
  mask_keeps = words_keep plan mask_length 0 m few (omega arith)

  -- where it has room: "The kept action numbers go to the front of the lent output", and every other word is as it was
  pub front_and_rest : (before : List ℕ) → count m ≤ length before → sets before 0 (kept m plan) ≡ kept m plan ++ drop (count m) before
  front_and_rest before room =
      let long : length (kept m plan) ≡ count m = kept_length m plan fits in
      sets-eq (kept m plan) before 0 (omega arith) ∙ rw (long, zero-add)
