-- What a text means: the words that stand in its lines between white space, comments left out, or the line at which
-- it is no text of words. Assumes nothing.
use Rattle.std.specs.Prelude.{ℕ, zero, suc, ◌+◌, ◌^◌, Bool, cond, ◌&&◌, ◌||◌, List, [], ◌∷◌, ◌++◌, map, length, take, ltb, eqb}
use Rattle.std.specs.Prelude.{Result, Ok, Err}
use Rattle.std.proofs.Math.Option.{Option, none, some}
use Rattle.ascii.specs.Bytes.{space, ends_line, runs, split, all_digits, decimal_from}
use Rattle.text.specs.Limits.{most_text}
use Rattle.text.specs.declared.reader.TextError.{TextError}
use Rattle.text.specs.declared.reader.TextError.TheVariants as error

-- the sign that begins a comment, as ASCII has it
abbrev pub comment_sign : ℕ
comment_sign = 35

abbrev pub begins_comment : ℕ → Bool
begins_comment b = eqb b comment_sign

-- white space within a line: a space, a tab or a carriage return
abbrev pub blank : ℕ → Bool
blank b = eqb b space || eqb b 9 || eqb b 13

-- those runs that are not empty
unfoldable pub not_empty : List (List ℕ) → List (List ℕ)
not_empty [] = []
not_empty ([] ∷ rs) = not_empty rs
not_empty ((b ∷ bs) ∷ rs) = (b ∷ bs) ∷ not_empty rs

-- a line before its comment
abbrev pub uncommented : List ℕ → List ℕ
uncommented line = (split begins_comment line).first

-- what stands there between white space
unfoldable pub fields : List ℕ → List (List ℕ)
fields line = not_empty (runs (split blank (uncommented line)))

-- a field of a text, with the number of its line
pub record Field : Type 0 where
  pub line : ℕ
  pub bytes : List ℕ

abbrev pub on_line : ℕ → List (List ℕ) → List Field
on_line n fs = map (λ f. record { line = n; bytes = f }) fs

-- the fields of lines, of which the first has number n
unfoldable pub fields_from : ℕ → List (List ℕ) → List Field
fields_from n [] = []
fields_from n (l ∷ ls) = on_line n (fields l) ++ fields_from (n + 1) ls

-- the word that bytes stand for behind digits that stand for v: there is one where all are digits and the number fits
-- a word
unfoldable pub word_from : ℕ → List ℕ → Option ℕ
word_from v bs = cond (all_digits bs && ltb (decimal_from v bs) (2 ^ 32)) (some (decimal_from v bs)) none

abbrev pub word_of : List ℕ → Option ℕ
word_of bs = word_from 0 bs

-- what reading a text finds: its words; or the line of a field that is no word; or the line of a word for which there
-- is no room; or that it is too long to be read
pub data Reading : Type 0 where
  Words : List ℕ → Reading
  NoWord : ℕ → Reading
  NoRoom : ℕ → Reading
  Long : Reading

-- a reading with one word in front
abbrev pub in_front : ℕ → Reading → Reading
in_front x (Words xs) = Words (x ∷ xs)
in_front x (NoWord n) = NoWord n
in_front x (NoRoom n) = NoRoom n
in_front x Long = Long

-- what reading fields in turn finds, where there is room for so many words: it ends at the first that is no word or
-- has no room
unfoldable pub read : ℕ → List Field → Reading
read room [] = Words []
read room (f ∷ fs) =
    elim (word_of f.bytes) [
      | none ↦ NoWord f.line
      | some x ↦ elim room [ zero ↦ NoRoom f.line | suc k ↦ in_front x (read k fs) ]
    ]

-- what reading a text of any length finds, where there is room for so many words; its lines are numbered from 1
unfoldable pub reading : ℕ → List ℕ → Reading
reading room text = read room (fields_from 1 (runs (split ends_line text)))

-- what reading a text finds, which is not read where it has more bytes than a text may have
unfoldable pub found_in : ℕ → List ℕ → Reading
found_in room text = cond (ltb most_text (length text)) Long (reading room text)

-- what the end of a reading tells, where the words read are stored at the front of ws
abbrev pub stopped : TextError → Reading
stopped (error.NoWord n) = NoWord n
stopped (error.NoRoom n) = NoRoom n
stopped error.Long = Long

abbrev pub reading_of : Result ℕ TextError → List ℕ → Reading
reading_of (Ok n) ws = Words (take n ws)
reading_of (Err e) ws = stopped e
