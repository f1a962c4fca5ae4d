-- The lines of a planner's text, the words of a line and the numbers that they are (document 02, C-11). Assumes
-- nothing.
use Rattle.std.specs.Prelude.{ℕ, min, Bool, true, false, not, cond, ◌&&◌, ◌||◌, List, [], ◌∷◌, map, length, eqb}
use Rattle.ascii.specs.Bytes.{ascii, space, ends_line, ascii_zero, ascii_digit, Split, runs, split, all_digits}
use Rattle.ascii.specs.Bytes.{decimal_from}
use Rattle.fields.specs.Between.Numbers.{most_number, any_value}
use Rattle.fields.specs.declared.class.Class.{Class}
use Rattle.fields.specs.declared.class.Class.TheVariants.{Digit, Minus, Space, LineEnd, Other}

abbrev pub minus_sign : ℕ
minus_sign = 45

abbrev pub ends_word : ℕ → Bool
ends_word b = eqb b space

-- "each byte is a digit, a minus, a space, a line end or something else"
unfoldable pub class_of : ℕ → Class
class_of b =
    elim (ascii_digit b) [
      | true ↦ Digit
      | false ↦ cond (eqb b minus_sign) Minus (cond (ends_word b) Space (cond (ends_line b) LineEnd Other))
    ]

-- the lines of a text, without their line ends; the last run is what stands behind the last line end, and no line
abbrev pub lines_of : List ℕ → Split
lines_of text = split ends_line text

-- the words of a line, "one space between": two spaces have an empty word between them
abbrev pub words_of : List ℕ → List (List ℕ)
words_of line = runs (split ends_word line)

-- whether two runs of bytes are the same
unfoldable pub same : List ℕ → List ℕ → Bool
same [] [] = true
same [] (d ∷ ds) = false
same (b ∷ bs) [] = false
same (b ∷ bs) (d ∷ ds) = eqb b d && same bs ds

-- a number: digits, "no needless zero in front"
unfoldable pub is_number : List ℕ → Bool
is_number [] = false
is_number (d ∷ ds) = all_digits (d ∷ ds) && (not (eqb d ascii_zero) || eqb (length ds) 0)

-- a number as it is told from others
unfoldable pub number : List ℕ → ℕ
number ds = min most_number (decimal_from 0 ds)

abbrev pub minus_one : List ℕ
minus_one = ascii "-1"

-- a word reads where it is a number or −1
unfoldable pub word_reads : List ℕ → Bool
word_reads w = same w minus_one || is_number w

unfoldable pub word_number : List ℕ → ℕ
word_number w = cond (same w minus_one) any_value (number w)

unfoldable pub all_read : List (List ℕ) → Bool
all_read [] = true
all_read (w ∷ ws) = word_reads w && all_read ws

-- a line of numbers, each of which may be −1, and those numbers
abbrev pub line_reads : List ℕ → Bool
line_reads line = all_read (words_of line)

abbrev pub line_numbers : List ℕ → List ℕ
line_numbers line = map word_number (words_of line)

-- a number, and not −1
abbrev pub plain : ℕ → Bool
plain x = not (eqb x any_value)

unfoldable pub all_plain : List ℕ → Bool
all_plain [] = true
all_plain (x ∷ xs) = plain x && all_plain xs

-- none of these numbers is −1 but perhaps the last but one
unfoldable pub plain_but_old : List ℕ → Bool
plain_but_old [] = true
plain_but_old (new ∷ []) = plain new
plain_but_old (old ∷ new ∷ []) = plain new
plain_but_old (x ∷ y ∷ z ∷ xs) = plain x && plain_but_old (y ∷ z ∷ xs)
