-- A mask of four words (document 01, "Doing a step, and a valid list"): how it tells a reduction, and what is kept by
-- it. Assumes nothing.
use Rattle.std.specs.Prelude.{ℕ, zero, suc, ◌+◌, ◌*◌, ◌/◌, ◌%◌, ◌^◌, Bool, true, false, List, [], ◌∷◌, get_or, take, drop, eqb}
use Rattle.std.specs.Int.Count.{ones}
use Rattle.reduction.specs.Reduction.{Reduction}
-- the bits of a word
pub use Rattle.access.specs.Bits.{word_bits}

-- the words of a mask, stated here and nowhere else in the definitions
abbrev pub mask_length : ℕ
mask_length = 4

-- the most steps that a mask can tell
abbrev pub mask_bits : ℕ
mask_bits = word_bits * mask_length

-- one for a kept step, zero for a struck one
abbrev pub digit : Bool → ℕ
digit true = 1
digit false = 0

-- the number that has these binary digits, the lowest first
unfoldable pub binary : List Bool → ℕ
binary [] = 0
binary (b ∷ m) = 2 * binary m + digit b

-- n words, each of the next 64 flags; where a flag is missing its bit is zero
unfoldable pub words_of : ℕ → Reduction → List ℕ
words_of zero m = []
words_of (suc n) m = binary (take word_bits m) ∷ words_of n (drop word_bits m)

-- "bit (i − 1) mod 64 of word (i − 1) div 64 is one when step i is kept; all other bits are zero"; flags that no word
-- has a bit for are dropped
unfoldable pub mask_words : Reduction → List ℕ
mask_words m = words_of mask_length m

-- "the number of ones in the mask"
unfoldable pub ones_of : List ℕ → ℕ
ones_of [] = 0
ones_of (w ∷ ws) = ones w + ones_of ws

-- bit i of the words is one
unfoldable pub bit_up : List ℕ → ℕ → Bool
bit_up ws i = eqb (get_or ws (i / word_bits) 0 / 2 ^ (i % word_bits) % 2) 1
