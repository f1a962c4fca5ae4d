-- What is found in the forms that programs read, as words that programs in other languages lend and read. Assumes
-- nothing.
use Rattle.std.specs.Prelude.{ℕ, ◌≡◌, List, [], ◌∷◌, ◌++◌, length}
use Rattle.std.proofs.lemmas.List.Edits.{sets}
use Rattle.program.specs.Opening.{Opening, Refused, Lodged, opening}
use Rattle.text.specs.Text.{Reading, Words, NoWord, NoRoom, Long, found_in}
use Rattle.text.specs.Limits.{most}

-- what reading a text of words has found: 0 and how many words; 1 and the line of a field that is no word; 2 and the
-- line of a word for which there is no room; 3 and 0 where the text is too long to be read
abbrev pub found_words : Reading → List ℕ
found_words (Words ws) = 0 ∷ length ws ∷ []
found_words (NoWord n) = 1 ∷ n ∷ []
found_words (NoRoom n) = 2 ∷ n ∷ []
found_words Long = 3 ∷ 0 ∷ []

-- the words that are handed on: none of a text that is not read to its end
abbrev pub words_read : Reading → List ℕ
words_read (Words ws) = ws
words_read (NoWord n) = []
words_read (NoRoom n) = []
words_read Long = []

-- a reading over lent words: its words over `words`, what was found over `out`
pub record ReadLent (found : Reading) (words words' out out' : List ℕ) : Type 0 where
  pub words_left : words' ≡ sets words 0 (words_read found)
  pub answered : out' ≡ sets out 0 (found_words found)

-- a text of words over lent words: there is room for as many as a text may have, whatever is lent
abbrev pub ReadsLent : List ℕ → List ℕ → List ℕ → List ℕ → List ℕ → Type 0
ReadsLent text = ReadLent (found_in most text)

-- what a program finds of its input: the number and the place of its refusal, 0 and 0; or 0 and 0, how many words the
-- sheet has, and how many the list
abbrev pub opening_words : Opening → List ℕ
opening_words (Refused t) = t.number ∷ t.place ∷ 0 ∷ 0 ∷ []
opening_words (Lodged w l rest) = 0 ∷ 0 ∷ length w ∷ length l ∷ []

-- the words that are handed on: the sheet, the length of its list, and the list; none of an input that is refused
abbrev pub record_words : Opening → List ℕ
record_words (Refused t) = []
record_words (Lodged w l rest) = w ++ (length l ∷ l)

-- an opening over lent words: its record over `words`, what was found over `out`
pub record OpenLent (found : Opening) (words words' out out' : List ℕ) : Type 0 where
  pub words_left : words' ≡ sets words 0 (record_words found)
  pub answered : out' ≡ sets out 0 (opening_words found)

-- the bytes of an input over lent words
abbrev pub OpensLent : List ℕ → List ℕ → List ℕ → List ℕ → List ℕ → Type 0
OpensLent bytes = OpenLent (opening 0 bytes)
