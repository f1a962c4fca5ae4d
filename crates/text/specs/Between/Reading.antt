-- A text that is read up to some byte: what the rest of it means to a reader that stands there. Only the contracts of
-- the reading's steps cite this file, so it need not be believed. Assumes nothing.
use Rattle.std.specs.Prelude.{ℕ, zero, suc, ◌+◌, ◌-◌, ◌≤◌, ◌≡◌, Bool, ◌||◌, List, [], ◌∷◌, ◌++◌, length, take}
use Rattle.std.specs.Prelude.{Option as Given, Some, None, Result, Ok, Err, IfOk}
use Rattle.std.proofs.Math.Option.{Option, none, some}
use Rattle.text.specs.declared.reader.Mode.TheVariants as mode
use Rattle.text.specs.declared.reader.Reader.{Reader}
use Rattle.text.specs.declared.reader.TextError.{TextError}
use Rattle.ascii.specs.Bytes.{ends_line, runs, split}
use Rattle.text.specs.Text.{begins_comment, blank, not_empty, uncommented}
use Rattle.text.specs.Text.{Field, on_line, fields_from, word_from}
use Rattle.text.specs.Text.{Reading, NoWord, NoRoom, in_front, read, reading, stopped}

-- whether a field is over before a byte
abbrev pub ends_field : ℕ → Bool
ends_field b = ends_line b || begins_comment b || blank b

-- the lines that are left, the first of them cut off in front
abbrev pub line_left : List ℕ → List ℕ
line_left rest = (split ends_line rest).first

abbrev pub lines_left : List ℕ → List (List ℕ)
lines_left rest = (split ends_line rest).others

-- the fields that are left on line n, in white space and in a comment
abbrev pub after_blank : ℕ → List ℕ → List Field
after_blank n rest = fields_from n (runs (split ends_line rest))

abbrev pub after_comment : ℕ → List ℕ → List Field
after_comment n rest = fields_from (n + 1) (lines_left rest)

-- and in a field: the rest of that field, and the fields behind it
abbrev pub field_left : List ℕ → List ℕ
field_left rest = (split blank (uncommented (line_left rest))).first

abbrev pub after_field : ℕ → List ℕ → List Field
after_field n rest =
    on_line n (not_empty (split blank (uncommented (line_left rest))).others) ++ fields_from (n + 1) (lines_left rest)

-- the word that bytes stand for behind digits that stand for a value, where there is one
abbrev pub word_behind : Given ℕ → List ℕ → Option ℕ
word_behind None rest = none
word_behind (Some v) rest = word_from v rest

-- reading a field on line n that stands for a word or for none, and then fields
unfoldable pub read_field : ℕ → ℕ → Option ℕ → List Field → Reading
read_field room n none fs = NoWord n
read_field zero n (some x) fs = NoRoom n
read_field (suc k) n (some x) fs = in_front x (read k fs)

-- a reading with words in front
unfoldable pub all_in_front : List ℕ → Reading → Reading
all_in_front [] r = r
all_in_front (x ∷ xs) r = in_front x (all_in_front xs r)

-- the words that a reader has stored at the front of ws, and for how many more there is room
abbrev pub stored_words : Reader → List ℕ → List ℕ
stored_words r ws = take r.count ws

abbrev pub room_left : Reader → List ℕ → ℕ
room_left r ws = length ws - r.count

-- what reading the rest of a text finds, where a reader has stored words at the front of ws
unfoldable pub still : Reader → List ℕ → List ℕ → Reading
still r ws rest =
    elim r.mode [
      | mode.Blank ↦ all_in_front (stored_words r ws) (read (room_left r ws) (after_blank r.line rest))
      | mode.Comment ↦ all_in_front (stored_words r ws) (read (room_left r ws) (after_comment r.line rest))
      | mode.Word v ↦
          all_in_front (stored_words r ws)
          (read_field (room_left r ws) r.line (word_from v (field_left rest)) (after_field r.line rest))
    ]

-- and where it may have stopped
abbrev pub left_of : Result Reader TextError → List ℕ → List ℕ → Reading
left_of (Ok r) ws rest = still r ws rest
left_of (Err e) ws rest = stopped e

-- a reader on line n with k words stored, in white space, in a comment, and behind digits that stand for v
abbrev pub at_blank : ℕ → ℕ → Reader
at_blank n k = record { mode = mode.Blank; line = n; count = k }

abbrev pub at_comment : ℕ → ℕ → Reader
at_comment n k = record { mode = mode.Comment; line = n; count = k }

abbrev pub at_word : ℕ → ℕ → ℕ → Reader
at_word v n k = record { mode = mode.Word v; line = n; count = k }

-- reading some bytes takes a reader on, or stops it: the rest of the text means to it what the bytes with that rest
-- meant before, and it passes no more lines than there are bytes
pub record Reads (r : Reader) (ws bytes : List ℕ) (o : Result Reader TextError) (ws' : List ℕ) : Type 0 where
  pub same : (rest : List ℕ) → left_of o ws' rest ≡ still r ws (bytes ++ rest)
  pub lines : IfOk o (λ r'. r'.line ≤ r.line + length bytes)

-- to a reader at the beginning a whole text means what it is to mean
pub record Starts (r : Reader) : Type 0 where
  pub whole : (ws text : List ℕ) → still r ws text ≡ reading (length ws) text
  pub line : r.line ≡ 1

-- storing the word v of a field that is over, on line n behind k words: the rest means what it meant behind the digits,
-- and a reader that goes on stands in white space
pub record Stores (n k v : ℕ) (ws : List ℕ) (o : Result Reader TextError) (ws' : List ℕ) : Type 0 where
  pub same : (rest : List ℕ) → field_left rest ≡ [] → left_of o ws' rest ≡ still (at_word v n k) ws rest
  pub goes_on : IfOk o (λ r. r ≡ at_blank n (k + 1))
