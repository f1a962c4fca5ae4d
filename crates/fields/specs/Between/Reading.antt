-- A line of numbers as the code reads it, word by word. Only the contracts of the reading's steps cite this file, so it
-- need not be believed. Assumes nothing.
use Rattle.std.specs.Prelude.{ℕ, ◌+◌, ◌-◌, ◌*◌, min, ◌<◌, ◌≤◌, ◌≡◌, Bool, true, false, ◌&&◌, ◌||◌, List, [], ◌∷◌, ◌++◌, length, drop}
use Rattle.std.specs.Prelude.{Option, Some, None}
use Rattle.std.specs.Borrow.{Bor}
use Rattle.ascii.specs.Bytes.{space, line_end, ends_line, ascii_zero, ascii_digit, runs, split, decimal_from}
use Rattle.fields.specs.Between.Numbers.{most_number}
use Rattle.fields.specs.Between.Fields.{ends_word, lines_of, number, word_number, line_reads, line_numbers}
use Rattle.fields.specs.declared.word.End.{End}
use Rattle.fields.specs.declared.word.End.TheVariants.{Space, LineEnd}
use Rattle.fields.specs.declared.word.Word.{Word}

-- whether a line ends within bytes
abbrev pub has_line_end : List ℕ → Bool
has_line_end [] = false
has_line_end (b ∷ bs) = ends_line b || has_line_end bs

-- bytes behind the first line, if it ends: there stand the other lines
abbrev pub SkipsLine : List ℕ → Option (Bor (List ℕ)) → Type 0
SkipsLine bs (Some r) = ((lines_of bs).others ≡ runs (lines_of r.now)) × (length r.now < length bs)
SkipsLine bs None = (lines_of bs).others ≡ []

-- bytes behind this line and its line end, if they are in front
abbrev pub StripsLine : List ℕ → List ℕ → Option (Bor (List ℕ)) → Type 0
StripsLine bs line (Some r) = bs ≡ line ++ (line_end ∷ r.now)
StripsLine bs line None = (t : List ℕ) → bs ≡ line ++ (line_end ∷ t) → ⊥

-- the number that one more digit makes
abbrev pub grown : ℕ → ℕ → ℕ
grown v d = min most_number (10 * v + (d - ascii_zero))

-- the number that digits stand for where those in front of them stand for v
abbrev pub number_from : ℕ → List ℕ → ℕ
number_from v ds = min most_number (decimal_from v ds)

-- the digits in front
unfoldable pub leading_digits : List ℕ → List ℕ
leading_digits [] = []
leading_digits (b ∷ bs) = elim (ascii_digit b) [ true ↦ b ∷ leading_digits bs | false ↦ [] ]

-- and the bytes behind them
abbrev pub behind_digits : List ℕ → List ℕ
behind_digits bs = drop (length (leading_digits bs)) bs

-- digits that are left lead to what all lead to
pub record DigitsLeft (bs : List ℕ) (value : ℕ) (rest : List ℕ) : Type 0 where
  pub number_left : number_from value (leading_digits rest) ≡ number (leading_digits bs)
  pub behind_left : behind_digits rest ≡ behind_digits bs
  pub small : value ≤ most_number

-- all digits in front
pub record ReadsDigits (bs : List ℕ) (w : Word) : Type 0 where
  pub value : w.value ≡ number (leading_digits bs)
  pub rest : w.rest.now ≡ behind_digits bs

-- the byte that ends a word
abbrev pub end_byte : End → ℕ
end_byte Space = space
end_byte LineEnd = line_end

-- the word with a number, where the bytes behind it begin with its end
abbrev pub IsBefore : ℕ → List ℕ → End → Option Word → Type 0
IsBefore v bs e (Some w) = (w.value ≡ v) × (bs ≡ end_byte e ∷ w.rest.now)
IsBefore v bs e None = (t : List ℕ) → bs ≡ end_byte e ∷ t → ⊥

-- a word ends before a space, and before the end of its line
abbrev pub ends_either : ℕ → Bool
ends_either b = ends_word b || ends_line b

-- the word in front of bytes, and the bytes behind it
abbrev pub first_word : List ℕ → List ℕ
first_word bs = (split ends_either bs).first

abbrev pub behind_first : List ℕ → List ℕ
behind_first bs = drop (length (first_word bs)) bs

-- the word in front is one of those that are asked for, and has this end
pub record HasWord (reads : List ℕ → Bool) (bs : List ℕ) (e : End) (w : Word) : Type 0 where
  pub reads_it : reads (first_word bs) ≡ true
  pub value : w.value ≡ word_number (first_word bs)
  pub stands : behind_first bs ≡ end_byte e ∷ w.rest.now

abbrev pub LacksWord : (List ℕ → Bool) → List ℕ → End → Type 0
LacksWord reads bs e = reads (first_word bs) ≡ true → (t : List ℕ) → behind_first bs ≡ end_byte e ∷ t → ⊥

abbrev pub ReadsWord : (List ℕ → Bool) → List ℕ → End → Option Word → Type 0
ReadsWord reads bs e (Some w) = HasWord reads bs e w
ReadsWord reads bs e None = LacksWord reads bs e

-- the first line of bytes has these numbers, and behind its line end stand those other bytes
pub record HasNumbers (rest xs behind : List ℕ) : Type 0 where
  pub line : List ℕ
  pub cut : lines_of rest ≡ record { first = line; others = runs (lines_of behind) }
  pub reads : line_reads line ≡ true
  pub numbers : line_numbers line ≡ xs

-- the first line of bytes, if it ends, is no line of numbers for which the test holds
abbrev pub LacksNumbers : (List ℕ → Bool) → List ℕ → Type 0
LacksNumbers test rest =
    (line next : List ℕ) (others : List (List ℕ)) → lines_of rest ≡ record { first = line; others = next ∷ others }
    → (line_reads line && test (line_numbers line)) ≡ false
