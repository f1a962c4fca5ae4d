-- What some lines are, computed from the definitions. Assumes nothing.
use mathlib.Core.Path.{◌≡◌, refl}
use mathlib.Core.List.{[], ◌∷◌}
use Rattle.ascii.specs.Bytes.{ascii}
use Rattle.lines.specs.Lines.{numeral_within, numeral, spaced, line, row}

-- a word with two numbers, zero among them; and a row of numbers of one digit and more
pub lines : (line (ascii "kept") (3 ∷ 0 ∷ []) ≡ ascii "kept 3 0\n")
    × (row 10 (255000000 ∷ 999 ∷ []) ≡ ascii "10 255000000 999\n")
    × (ascii "ab\n" ≡ 97 ∷ 98 ∷ 10 ∷ [])
unfolding spaced numeral numeral_within
lines = (refl, refl, refl)
