-- The round trip: the words of a text in which words are laid out, as lines of words and of comment, are those words. By the laws of the fields left, digit by digit,
-- word by word and line by line. Assumes nothing.
use Prim.Native.Nat.{ℕ, suc, ◌+◌, ◌-◌, ◌^◌, ◌≤◌, ◌<◌}
use native.Mathlib.Omega.{arith}
use mathlib.Core.Path.{◌≡◌, refl, ◌∙◌, ap}
use mathlib.Core.Bool.{true, false}
use mathlib.Core.Option.{some}
use mathlib.Core.List.{List, [], ◌∷◌, ◌++◌, append_assoc}
use lib.ListN.{length, length-append}
use lib.Dec.{leb}
use borrow.Author.Tests.{lt-ltb, leb-true, ne_eqb}
use Rattle.ascii.specs.Bytes.{space, line_end}
use Rattle.lines.specs.Lines.{numeral, spaced}
use Rattle.lines.proofs.NumeralTheorem.{both, numeral_stands}
use Rattle.ascii.specs.Bytes.{ascii_zero, ascii_nine, ascii_digit, all_digits, split}
use Rattle.text.specs.Text.{comment_sign, word_from, word_of, fields, not_empty, fields_from, Words, in_front, read, reading}
use Rattle.text.specs.Between.Reading.{ends_field, after_blank, after_comment, field_left, after_field, read_field, all_in_front}
use Rattle.records.specs.Bytes.{WordSized, nothing, word}
use Rattle.layout.specs.Between.Lays.{Unbroken, Lays}
use Rattle.layout.specs.Between.Lays as lays
use Rattle.text.proofs.TextLaws.{none_left_of_field, blank_at_line_end, comment_at_line_end, comment_on, blank_at_comment, blank_at_blank, field_at_other, after_field_at_other, blank_at_other, field_ends, goes_on}
use Rattle.text.proofs.ReaderLaws.{read_next, all_in_front_words}

-- a word's numeral is read as the word
numeral_word : (x : ℕ) → x < 2 ^ 32 → word_of (numeral x) ≡ some x
unfolding word_from
numeral_word x small = let stands = numeral_stands x in rw (stands.all, stands.value, lt-ltb x (2 ^ 32) small)

-- a digit goes on with a field
digit_goes_on : (b : ℕ) → ascii_digit b ≡ true → ends_field b ≡ false
digit_goes_on b e =
    let low : ascii_zero ≤ b = leb-true ascii_zero b (both (leb ascii_zero b) (leb b ascii_nine) e).0 in
    rw (ne_eqb b 10 (λ is. omega arith), ne_eqb b 35 (λ is. omega arith), ne_eqb b 32 (λ is. omega arith), ne_eqb b 9 (λ is. omega arith), ne_eqb b 13 (λ is. omega arith))

-- digits in front of a byte that ends the field
module _ (n : ℕ) (rest : List ℕ) (over : field_left rest ≡ []) where
  digits_left : (ds : List ℕ) → all_digits ds ≡ true → (field_left (ds ++ rest) ≡ ds) × (after_field n (ds ++ rest) ≡ after_blank n rest)
  unfolding all_digits
  digits_left [] all = (over, none_left_of_field n rest over)
  digits_left (d ∷ ds) all =
      let (here, there) = both (ascii_digit d) (all_digits ds) all in
      let (on, (is, other)) = goes_on d (digit_goes_on d here) in
      let (field, after) = digits_left ds there in
      (field_at_other n d (ds ++ rest) on is other ∙ ap (λ l. d ∷ l) field, after_field_at_other n d (ds ++ rest) on is other ∙ after)

  digits_field : (ds : List ℕ) → 0 < length ds → all_digits ds ≡ true → after_blank n (ds ++ rest) ≡ record { line = n; bytes = ds } ∷ after_blank n rest
  unfolding all_digits
  digits_field [] any all = absurd (omega arith)
  digits_field (d ∷ ds) any all =
      let (here, there) = both (ascii_digit d) (all_digits ds) all in
      let (on, (is, other)) = goes_on d (digit_goes_on d here) in
      let (field, after) = digits_left ds there in
      blank_at_other n d (ds ++ rest) on is other ∙ ap (λ l. record { line = n; bytes = d ∷ l } ∷ after_field n (ds ++ rest)) field ∙ ap (λ fs. record { line = n; bytes = d ∷ ds } ∷ fs) after

-- a word on a line, behind a space
word_read : (room n x : ℕ) (rest : List ℕ) → x < 2 ^ 32 → field_left rest ≡ []
    → read (suc room) (after_blank n (space ∷ numeral x ++ rest)) ≡ in_front x (read room (after_blank n rest))
unfolding read_field
word_read room n x rest small over =
    let stands = numeral_stands x in
    ap (read (suc room)) (blank_at_blank n space (numeral x ++ rest) refl refl refl ∙ digits_field n rest over (numeral x) stands.some_digit stands.all)
    ∙ read_next (suc room) n (numeral x) (after_blank n rest)
    ∙ ap (λ o. read_field (suc room) n o (after_blank n rest)) (numeral_word x small)

-- behind each word stands a space or the line's end
words_over : (xs rest : List ℕ) → field_left (spaced xs ++ line_end ∷ rest) ≡ []
unfolding spaced
words_over [] rest = field_ends line_end rest refl
words_over (x ∷ xs) rest = field_ends space ((numeral x ++ spaced xs) ++ line_end ∷ rest) refl

line_read : {xs : List ℕ} → WordSized xs → (room n : ℕ) (rest : List ℕ)
    → read (length xs + room) (after_blank n (spaced xs ++ line_end ∷ rest)) ≡ all_in_front xs (read room (after_blank (n + 1) rest))
unfolding all_in_front spaced
line_read nothing room n rest =
    let all : 0 + room ≡ room = omega arith in
    ap (λ k. read k (after_blank n (line_end ∷ rest))) all ∙ ap (read room) (blank_at_line_end n line_end rest refl)
line_read (word {x} {xs} fits small) room n rest =
    let more : suc (length xs) + room ≡ suc (length xs + room) = omega arith in
    ap (λ k. read k (after_blank n (space ∷ (numeral x ++ spaced xs) ++ line_end ∷ rest))) more
    ∙ ap (λ l. read (suc (length xs + room)) (after_blank n (space ∷ l))) (append_assoc (numeral x) (spaced xs) (line_end ∷ rest))
    ∙ word_read (length xs + room) n x (spaced xs ++ line_end ∷ rest) fits (words_over xs rest)
    ∙ ap (in_front x) (line_read small room n rest)

-- a comment is passed over
comment_read : {note : List ℕ} → Unbroken note → (n : ℕ) (rest : List ℕ) → after_comment n (note ++ line_end ∷ rest) ≡ after_blank (n + 1) rest
comment_read lays.Unbroken.nothing n rest = comment_at_line_end n line_end rest refl
comment_read (lays.byte {b} {bs} on unbroken) n rest = comment_on n b (bs ++ line_end ∷ rest) on ∙ comment_read unbroken n rest

small_parts : (xs : List ℕ) {ys : List ℕ} → WordSized (xs ++ ys) → WordSized xs × WordSized ys
small_parts [] small = (nothing, small)
small_parts (x ∷ xs) (word fits small) = let (first, second) = small_parts xs small in (word fits first, second)

lays_read : {xs t : List ℕ} → Lays xs t → WordSized xs → (room n : ℕ) → length xs ≤ room → read room (after_blank n t) ≡ Words xs
unfolding read split fields not_empty fields_from
lays_read lays.Lays.nothing small room n low = refl
lays_read (lays.comment {note} {xs} {t} unbroken rest) small room n low =
    ap (read room) (blank_at_comment n comment_sign (note ++ line_end ∷ t) refl refl ∙ comment_read unbroken n t) ∙ lays_read rest small room (n + 1) low
lays_read (lays.words xs {ys} {t} rest) small room n low =
    let (first, second) = small_parts xs small in
    let parts : length (xs ++ ys) ≡ length xs + length ys = length-append xs ys in
    let left : room ≡ length xs + (room - length xs) = omega arith in
    ap (λ k. read k (after_blank n (spaced xs ++ line_end ∷ t))) left
    ∙ line_read first (room - length xs) n t
    ∙ ap (all_in_front xs) (lays_read rest second (room - length xs) (n + 1) (omega arith))
    ∙ all_in_front_words xs ys

-- the words of the text in which words are laid out are those words
pub round_trip : (xs t : List ℕ) → Lays xs t → WordSized xs → (room : ℕ) → length xs ≤ room → reading room t ≡ Words xs
unfolding reading
round_trip xs t lays small room low = lays_read lays small room 1 low

-- a numeral has no line end, so it may stand in a comment
digits_unbroken : (ds : List ℕ) → all_digits ds ≡ true → Unbroken ds
unfolding all_digits
digits_unbroken [] all = lays.Unbroken.nothing
digits_unbroken (d ∷ ds) all = let (here, there) = both (ascii_digit d) (all_digits ds) all in lays.byte (goes_on d (digit_goes_on d here)).0 (digits_unbroken ds there)

pub numeral_unbroken : (x : ℕ) → Unbroken (numeral x)
numeral_unbroken x = digits_unbroken (numeral x) (numeral_stands x).all
