-- The words of a reduction: which flags each has, and that their ones are the kept steps, by induction on the number of words; and how the code makes and
-- counts four of them. Assumes nothing.
use mir.Val.{bool_byte}
use Prim.Native.Nat.{ℕ, zero, suc, ◌+◌, ◌-◌, ◌*◌, ◌^◌, ◌≤◌, ◌<◌}
use native.Mathlib.Nat.{zero-add, add-zero, mul-suc, suc-add, lt_of_lt_of_le}
use native.Mathlib.Omega.{arith}
use mathlib.Core.Path.{◌≡◌, refl, ap, ◌∙◌}
use mathlib.Core.Bool.{Bool, true, false}
use mathlib.Core.List.{List, [], ◌∷◌}
use lib.ListN.{length, get_or, take, drop, length-drop}
use lib.Seq.{drop-drop}
use lib.Arith.{le-zero}
use lib.Count.{ones}
use lib.Pow.{pow_mono}
use Rattle.reduction.specs.Reduction.{Reduction, count}
use Rattle.mask.specs.Mask.{mask_length, word_bits, digit, binary, words_of, mask_words, ones_of}
use Rattle.mask.proofs.MaskWordLaws.{binary_below, binary_next, binary_ones}

-- word k has the flags from 64 × k on
pub words_at : (n k : ℕ) (m : Reduction) → k < n → get_or (words_of n m) k 0 ≡ binary (take word_bits (drop (word_bits * k) m))
unfolding words_of
words_at zero k m h = absurd (omega arith)
words_at (suc n) zero m h = refl
words_at (suc n) (suc k) m h =
    let next : word_bits + word_bits * k ≡ word_bits * suc k = omega (arith, mul-suc word_bits k) in
    words_at n k (drop word_bits m) (omega arith) ∙ rw (drop-drop, next)

count_parts : (n : ℕ) (m : Reduction) → count (take n m) + count (drop n m) ≡ count m
unfolding count
count_parts zero m = zero-add (count m)
count_parts (suc n) [] = refl
count_parts (suc n) (true ∷ m) = rw suc-add (ap suc (count_parts n m))
count_parts (suc n) (false ∷ m) = count_parts n m

pub words_ones : (n : ℕ) (m : Reduction) → length m ≤ word_bits * n → ones_of (words_of n m) ≡ count m
unfolding words_of ones_of count
words_ones zero [] few = refl
words_ones zero (b ∷ m) few = absurd (omega arith)
words_ones (suc n) m few =
    let rest : length (drop word_bits m) ≤ word_bits * n = omega (arith, length-drop word_bits m, mul-suc word_bits n) in
    rw (binary_ones, words_ones n (drop word_bits m) rest) (count_parts word_bits m)

-- the four words, each by where its flags start
pub four_words : (m : Reduction) (a b c d : ℕ) → a ≡ binary (take word_bits (drop 0 m)) → b ≡ binary (take word_bits (drop word_bits m))
    → c ≡ binary (take word_bits (drop (2 * word_bits) m)) → d ≡ binary (take word_bits (drop (3 * word_bits) m)) → (a ∷ b ∷ c ∷ d ∷ []) ≡ mask_words m
unfolding mask_words words_of
four_words m a b c d first second third fourth =
    let two : drop word_bits (drop word_bits m) ≡ drop (2 * word_bits) m = drop-drop word_bits word_bits m in
    let three : drop word_bits (drop (2 * word_bits) m) ≡ drop (3 * word_bits) m = drop-drop word_bits (2 * word_bits) m in
    cc

-- the ones of four words, each read by its index
pub ones_of_four : (ws : List ℕ) → length ws ≡ mask_length → ones (get_or ws 0 0) + ones (get_or ws 1 0) + ones (get_or ws 2 0) + ones (get_or ws 3 0) ≡ ones_of ws
unfolding ones_of
ones_of_four (a ∷ b ∷ c ∷ d ∷ []) four = omega arith
ones_of_four [] four = absurd (omega arith)
ones_of_four (a ∷ []) four = absurd (omega arith)
ones_of_four (a ∷ b ∷ []) four = absurd (omega arith)
ones_of_four (a ∷ b ∷ c ∷ []) four = absurd (omega arith)
ones_of_four (a ∷ b ∷ c ∷ d ∷ e ∷ ws) four = absurd (omega arith)

-- the word of the flags of a word from its flag i on, where its flags start at index `from`
unfoldable pub upper_part : Reduction → ℕ → ℕ → ℕ
upper_part m from i = binary (take (word_bits - i) (drop (from + i) m))

module _ (m : Reduction) (from : ℕ) where
  pub upper_none : upper_part m from word_bits ≡ 0
  unfolding upper_part binary
  upper_none = refl

  pub upper_next : (i : ℕ) → 0 < i → i ≤ word_bits → upper_part m from (i - 1) ≡ 2 * upper_part m from i + digit (get_or m (from + (i - 1)) false)
  unfolding upper_part
  upper_next i some inside =
      let longer : word_bits - (i - 1) ≡ suc (word_bits - i) = omega arith in
      let here : from + (i - 1) + 1 ≡ from + i = omega arith in
      rw (longer, binary_next, here)

  upper_below : (i : ℕ) → upper_part m from i < 2 ^ word_bits
  unfolding upper_part
  upper_below i = lt_of_lt_of_le (binary_below (word_bits - i) (drop (from + i) m)) (pow_mono {j = word_bits} (omega arith))

  pub upper_fits : (i : ℕ) → 0 < i → i ≤ word_bits → 2 * upper_part m from i + digit (get_or m (from + (i - 1)) false) < 2 ^ word_bits
  upper_fits i some inside = rw (← upper_next i some inside) (upper_below (i - 1))

  pub upper_whole : (i : ℕ) → i ≤ 0 → upper_part m from i ≡ binary (take word_bits (drop from m))
  unfolding upper_part
  upper_whole i none = rw (le-zero none, add-zero)

-- a flag as a number is its digit
pub digit_told : (b : Bool) → bool_byte b ≡ digit b
digit_told true = refl
digit_told false = refl
