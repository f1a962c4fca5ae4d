-- Lines of words and numbers, as a program prints them, in ASCII. Assumes nothing.
use Rattle.std.specs.Prelude.{ℕ, zero, suc, ◌+◌, ◌/◌, ◌%◌, true, false, List, [], ◌∷◌, ◌++◌, ltb}
use Rattle.ascii.specs.Bytes.{space, line_end, ascii_zero}

abbrev pub digit_sign : ℕ → ℕ
digit_sign d = ascii_zero + d

-- a number in decimal, of no more than n digits
unfoldable pub numeral_within : ℕ → ℕ → List ℕ
numeral_within zero x = []
numeral_within (suc n) x =
    elim (ltb x 10) [
      | true ↦ digit_sign x ∷ []
      | false ↦ numeral_within n (x / 10) ++ (digit_sign (x % 10) ∷ [])
    ]

-- a number in decimal, with no needless zero: it has no more than x + 1 digits
unfoldable pub numeral : ℕ → List ℕ
numeral x = numeral_within (suc x) x

-- numbers, each behind a space
unfoldable pub spaced : List ℕ → List ℕ
spaced [] = []
spaced (x ∷ xs) = space ∷ (numeral x ++ spaced xs)

-- a line: a word, then numbers, each behind a space, then the line end
abbrev pub line : List ℕ → List ℕ → List ℕ
line word numbers = word ++ (spaced numbers ++ (line_end ∷ []))

-- a line of numbers
abbrev pub row : ℕ → List ℕ → List ℕ
row first others = line (numeral first) others
