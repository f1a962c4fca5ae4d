-- The first word of what is left of a text, as the code reads it: behind a minus, or by the digits in front. Assumes nothing.
use Prim.Native.Nat.{ℕ}
use native.Mathlib.Omega.{arith}
use mathlib.Core.Path.{◌≡◌, refl, sym, ◌∙◌, ap}
use mathlib.Core.Bool.{Bool, true, false, false≢true}
use mathlib.Core.List.{List, [], ◌∷◌}
use lib.ListN.{length, drop, get_or}
use borrow.Author.Tests.{ne_eqb}
use Rattle.ascii.specs.Bytes.{ascii_zero, ascii_digit, split, all_digits, decimal_from}
use Rattle.ascii.proofs.SplitLaws.{split_at, split_in}
use Rattle.fields.specs.Between.Numbers.{any_value}
use Rattle.fields.specs.Between.Fields.{minus_sign, same, is_number, number, minus_one, word_reads, word_number}
use Rattle.std.specs.Prelude.{Option, Some, None}
use Rattle.fields.specs.declared.word.End.{End}
use Rattle.fields.specs.declared.word.End.TheVariants.{Space, LineEnd}
use Rattle.fields.specs.declared.word.Word.{Word}
use Rattle.fields.specs.Between.Reading.{leading_digits, behind_digits, end_byte, IsBefore, ends_either, first_word, ReadsDigits, LacksWord, ReadsWord}
use Rattle.fields.proofs.LineLaws.{fails_either}
use Rattle.fields.proofs.DigitLaws.{digit_from_zero, leading_in, leading_at}

-- whether a word is over before these bytes
abbrev over : List ℕ → Bool
over [] = true
over (b ∷ bs) = ends_either b

over_end : (e : End) (rest t : List ℕ) → rest ≡ end_byte e ∷ t → over rest ≡ true
over_end e rest t stands = ap over stands ∙ ends e
  where
    ends : (e : End) → ends_either (end_byte e) ≡ true
    ends Space = refl
    ends LineEnd = refl

-- the first word, by the next byte
word_over : (b : ℕ) (bs : List ℕ) → ends_either b ≡ true → first_word (b ∷ bs) ≡ []
word_over b bs e = ap (λ c. c.first) (split_at ends_either b bs e)

word_on : (b : ℕ) (bs : List ℕ) → ends_either b ≡ false → first_word (b ∷ bs) ≡ b ∷ first_word bs
word_on b bs e = ap (λ c. c.first) (split_in ends_either b bs e)

no_word_left : (rest : List ℕ) → over rest ≡ true → first_word rest ≡ []
unfolding split
no_word_left [] e = refl
no_word_left (b ∷ bs) e = word_over b bs e

digit_inside : (b : ℕ) → ascii_digit b ≡ true → ends_either b ≡ false
digit_inside b e =
    rw (ne_eqb b 32 (λ is. omega (arith, digit_from_zero b e)), ne_eqb b 10 (λ is. omega (arith, digit_from_zero b e)))

-- where a word ends behind the digits in front, they are the word
all_leading : (rest : List ℕ) → over (drop (length (leading_digits rest)) rest) ≡ true → first_word rest ≡ leading_digits rest
unfolding split leading_digits
all_leading [] h = refl
all_leading (b ∷ bs) h = by_case (all_leading bs) (ascii_digit b) refl
  where
    by_case : (over (drop (length (leading_digits bs)) bs) ≡ true → first_word bs ≡ leading_digits bs)
        → (t : Bool) → ascii_digit b ≡ t → first_word (b ∷ bs) ≡ leading_digits (b ∷ bs)
    by_case behind true e = word_on b bs (digit_inside b e) ∙ ap (λ w. b ∷ w) (behind (rw (leading_in b bs e) at h)) ∙ sym (leading_in b bs e)
    by_case behind false e = word_over b bs (rw (leading_at b bs e) at h) ∙ sym (leading_at b bs e)

-- and where it does not end there, it is not of digits
not_all_leading : (rest : List ℕ) → over (drop (length (leading_digits rest)) rest) ≡ false → all_digits (first_word rest) ≡ false
unfolding split leading_digits all_digits
not_all_leading [] h = absurd (false≢true (sym h))
not_all_leading (b ∷ bs) h = by_case (not_all_leading bs) (ascii_digit b) refl
  where
    by_case : (over (drop (length (leading_digits bs)) bs) ≡ false → all_digits (first_word bs) ≡ false)
        → (t : Bool) → ascii_digit b ≡ t → all_digits (first_word (b ∷ bs)) ≡ false
    by_case behind true e = rw (word_on b bs (digit_inside b e), e) (behind (rw (leading_in b bs e) at h))
    by_case behind false e = rw (word_on b bs (rw (leading_at b bs e) at h), e)

only_digits : (rest : List ℕ) → all_digits (leading_digits rest) ≡ true
unfolding leading_digits all_digits
only_digits [] = refl
only_digits (b ∷ bs) = by_case (only_digits bs) (ascii_digit b) refl
  where
    by_case : all_digits (leading_digits bs) ≡ true → (t : Bool) → ascii_digit b ≡ t → all_digits (leading_digits (b ∷ bs)) ≡ true
    by_case behind true e = rw (leading_in b bs e, e) behind
    by_case behind false e = rw (leading_at b bs e)

no_number : (w : List ℕ) → all_digits w ≡ false → is_number w ≡ false
unfolding is_number
no_number [] e = refl
no_number (d ∷ ds) e = rw e

-- a number is of digits, so it is not −1
pub number_digits : (ds : List ℕ) → is_number ds ≡ true → all_digits ds ≡ true
unfolding is_number
number_digits [] e = absurd (false≢true e)
number_digits (d ∷ ds) e = by_case (all_digits (d ∷ ds)) refl
  where
    by_case : (t : Bool) → all_digits (d ∷ ds) ≡ t → all_digits (d ∷ ds) ≡ true
    by_case true is = is
    by_case false is = absurd (false≢true (rw is at e))

pub number_word : (w : List ℕ) → is_number w ≡ true → word_number w ≡ number w
unfolding word_number is_number all_digits same
number_word [] e = absurd (false≢true e)
number_word (d ∷ ds) e = by_case (ascii_digit d) refl
  where
    by_case : (t : Bool) → ascii_digit d ≡ t → word_number (d ∷ ds) ≡ number (d ∷ ds)
    by_case true is = rw (word_number, ne_eqb d 45 (λ h. omega (arith, digit_from_zero d is)))
    by_case false is = absurd (false≢true (rw is at e))

-- digits in front that don't begin with a zero are a number
leading_number : (b : ℕ) (bs : List ℕ) → ascii_digit b ≡ true → (b ≡ ascii_zero → ⊥) → is_number (leading_digits (b ∷ bs)) ≡ true
unfolding is_number
leading_number b bs e no_zero =
    let all : all_digits (b ∷ leading_digits bs) ≡ true = rw (leading_in b bs e) at (only_digits (b ∷ bs)) in
    rw (leading_in b bs e, all, ne_eqb b ascii_zero no_zero)

-- a word that begins with a zero and goes on is no number
zero_goes_on : (bs : List ℕ) → over bs ≡ false → is_number (first_word (ascii_zero ∷ bs)) ≡ false
unfolding is_number
zero_goes_on [] h = absurd (false≢true (sym h))
zero_goes_on (b ∷ bs) h =
    rw
    (word_on ascii_zero (b ∷ bs) refl, word_on b bs h, ne_eqb (length (b ∷ first_word bs)) 0 (λ e. omega arith))
    (fails_either (all_digits (ascii_zero ∷ b ∷ first_word bs)))

-- nor is one that does not begin with a digit
no_digit_first : (rest : List ℕ) → ascii_digit (get_or rest 0 0) ≡ false → is_number (first_word rest) ≡ false
unfolding split is_number all_digits
no_digit_first [] e = refl
no_digit_first (b ∷ bs) e = by_case (ends_either b) refl
  where
    by_case : (t : Bool) → ends_either b ≡ t → is_number (first_word (b ∷ bs)) ≡ false
    by_case true is = ap is_number (word_over b bs is)
    by_case false is = ap is_number (word_on b bs is) ∙ rw e

-- a word that does not begin with a minus is not −1
not_minus_one : (rest : List ℕ) → (get_or rest 0 0 ≡ minus_sign → ⊥) → same (first_word rest) minus_one ≡ false
unfolding split same
not_minus_one [] e = refl
not_minus_one (b ∷ bs) e = by_case (ends_either b) refl
  where
    by_case : (t : Bool) → ends_either b ≡ t → same (first_word (b ∷ bs)) minus_one ≡ false
    by_case true is = rw (word_over b bs is)
    by_case false is = rw (word_on b bs is, ne_eqb b minus_sign e)

-- a minus makes a word only as −1
minus_other : (bs : List ℕ) → (get_or bs 0 0 ≡ 49 → ⊥) → word_reads (first_word (minus_sign ∷ bs)) ≡ false
unfolding split same all_digits is_number word_reads
minus_other [] no_one = refl
minus_other (b ∷ bs) no_one = by_case (ends_either b) refl
  where
    by_case : (t : Bool) → ends_either b ≡ t → word_reads (first_word (minus_sign ∷ b ∷ bs)) ≡ false
    by_case true e = ap (λ w. word_reads (minus_sign ∷ w)) (word_over b bs e)
    by_case false e = ap (λ w. word_reads (minus_sign ∷ w)) (word_on b bs e) ∙ rw (ne_eqb b 49 no_one)

minus_one_on : (bs : List ℕ) → over bs ≡ false → word_reads (first_word (minus_sign ∷ 49 ∷ bs)) ≡ false
unfolding split same all_digits is_number word_reads
minus_one_on [] h = absurd (false≢true (sym h))
minus_one_on (b ∷ bs) h = ap (λ w. word_reads (minus_sign ∷ 49 ∷ w)) (word_on b bs h)

minus_one_over : (bs : List ℕ) → over bs ≡ true → first_word (minus_sign ∷ 49 ∷ bs) ≡ minus_one
unfolding split
minus_one_over bs e = ap (λ w. minus_sign ∷ 49 ∷ w) (no_word_left bs e)

-- bytes that do not begin with one
first_differs : (bs : List ℕ) (b : ℕ) → ((t : List ℕ) → bs ≡ b ∷ t → ⊥) → (0 ≡ b → ⊥) → get_or bs 0 0 ≡ b → ⊥
first_differs [] b others some is = some is
first_differs (c ∷ bs) b others some is = others bs (ap (λ d. d ∷ bs) is)

-- a zero, and −1
zero_reads : is_number (ascii_zero ∷ []) ≡ true
unfolding is_number all_digits
zero_reads = refl

zero_is : word_number (ascii_zero ∷ []) ≡ 0
unfolding word_number same number decimal_from
zero_is = refl

minus_one_reads : word_reads minus_one ≡ true
unfolding word_reads same
minus_one_reads = refl

minus_one_is : word_number minus_one ≡ any_value
unfolding word_number same
minus_one_is = refl

-- what `read_number` returns
module _ (e : End) where
  zero_first : (rest : List ℕ) (r : Option Word) → IsBefore 0 rest e r → ReadsWord is_number (ascii_zero ∷ rest) e r
  zero_first rest (Some w) (is, stands) =
      let word : first_word (ascii_zero ∷ rest) ≡ ascii_zero ∷ [] =
      word_on ascii_zero rest refl ∙ ap (λ v. ascii_zero ∷ v) (no_word_left rest (over_end e rest w.rest.now stands)) in
      record { reads_it = ap is_number word ∙ zero_reads; value = is ∙ sym (ap word_number word ∙ zero_is); stands = ap (λ v. drop (length v) (ascii_zero ∷ rest)) word ∙ stands }
  zero_first rest None none = λ read t stands. by_case (over rest) refl read t stands
    where
      by_case : (u : Bool) → over rest ≡ u → LacksWord is_number (ascii_zero ∷ rest) e
      by_case true is read t stands =
          let word : first_word (ascii_zero ∷ rest) ≡ ascii_zero ∷ [] = word_on ascii_zero rest refl ∙ ap (λ v. ascii_zero ∷ v) (no_word_left rest is) in
          none t (sym (ap (λ v. drop (length v) (ascii_zero ∷ rest)) word) ∙ stands)
      by_case false is read t stands = false≢true (sym (zero_goes_on rest is) ∙ read)

  pub reads_zero : {bs : List ℕ} (b : ℕ) (rest : List ℕ) → bs ≡ b ∷ rest → b ≡ ascii_zero → (r : Option Word) → IsBefore 0 rest e r
      → ReadsWord is_number bs e r
  reads_zero b rest begins zero r found = rw (begins, zero) (zero_first rest r found)

  module _ (b : ℕ) (bs : List ℕ) where
    -- the digits in front
    abbrev ds : List ℕ
    ds = leading_digits (b ∷ bs)

    digits_first : (b ≡ ascii_zero → ⊥) → ascii_digit b ≡ true → (d : Word) → ReadsDigits (b ∷ bs) d → (r : Option Word)
        → IsBefore d.value d.rest.now e r → ReadsWord is_number (b ∷ bs) e r
    digits_first no_zero digit d digits (Some w) (is, stands) =
        let leads : is_number ds ≡ true = leading_number b bs digit no_zero in
        let behind : behind_digits (b ∷ bs) ≡ end_byte e ∷ w.rest.now = sym digits.rest ∙ stands in
        let word : first_word (b ∷ bs) ≡ ds = all_leading (b ∷ bs) (over_end e _ w.rest.now behind) in
        record {
          reads_it = ap is_number word ∙ leads;
          value = is ∙ digits.value ∙ sym (ap word_number word ∙ number_word ds leads);
          stands = ap (λ v. drop (length v) (b ∷ bs)) word ∙ behind;
        }
    digits_first no_zero digit d digits None none = λ read t stands. by_case (over (behind_digits (b ∷ bs))) refl read t stands
      where
        by_case : (u : Bool) → over (behind_digits (b ∷ bs)) ≡ u → LacksWord is_number (b ∷ bs) e
        by_case true is read t stands =
            none t (digits.rest ∙ sym (ap (λ v. drop (length v) (b ∷ bs)) (all_leading (b ∷ bs) is)) ∙ stands)
        by_case false is read t stands =
            false≢true (sym (no_number (first_word (b ∷ bs)) (not_all_leading (b ∷ bs) is)) ∙ read)

    no_digit_there : ascii_digit b ≡ false → LacksWord is_number (b ∷ bs) e
    no_digit_there no_digit read t stands = false≢true (sym (no_digit_first (b ∷ bs) no_digit) ∙ read)

  pub reads_digits : {bs : List ℕ} (b : ℕ) (rest : List ℕ) → bs ≡ b ∷ rest → (b ≡ ascii_zero → ⊥) → ascii_digit b ≡ true → (d : Word)
      → ReadsDigits bs d → (r : Option Word) → IsBefore d.value d.rest.now e r → ReadsWord is_number bs e r
  reads_digits b rest begins no_zero digit d digits r found = rw begins (digits_first b rest no_zero digit d (rw begins at digits) r found)

  pub reads_no_digit : {bs : List ℕ} (b : ℕ) (rest : List ℕ) → bs ≡ b ∷ rest → ascii_digit b ≡ false → LacksWord is_number bs e
  reads_no_digit b rest begins no_digit = rw begins (no_digit_there b rest no_digit)

  -- what `read_word` returns
  minus_one_first : (rest : List ℕ) (r : Option Word) → IsBefore any_value rest e r → ReadsWord word_reads (minus_sign ∷ 49 ∷ rest) e r
  minus_one_first rest (Some w) (is, stands) =
      let word : first_word (minus_sign ∷ 49 ∷ rest) ≡ minus_one = minus_one_over rest (over_end e rest w.rest.now stands) in
      record {
        reads_it = ap word_reads word ∙ minus_one_reads;
        value = is ∙ sym (ap word_number word ∙ minus_one_is);
        stands = ap (λ v. drop (length v) (minus_sign ∷ 49 ∷ rest)) word ∙ stands;
      }
  minus_one_first rest None none = λ read t stands. by_case (over rest) refl read t stands
    where
      by_case : (u : Bool) → over rest ≡ u → LacksWord word_reads (minus_sign ∷ 49 ∷ rest) e
      by_case true is read t stands = none t (sym (ap (λ v. drop (length v) (minus_sign ∷ 49 ∷ rest)) (minus_one_over rest is)) ∙ stands)
      by_case false is read t stands = false≢true (sym (minus_one_on rest is) ∙ read)

  pub reads_minus_one : (bs next rest : List ℕ) → bs ≡ minus_sign ∷ next → next ≡ 49 ∷ rest → (r : Option Word) → IsBefore any_value rest e r
      → ReadsWord word_reads bs e r
  reads_minus_one bs next rest minus one r found = rw (minus, one) (minus_one_first rest r found)

  other_minus : (rest : List ℕ) → ((t : List ℕ) → rest ≡ 49 ∷ t → ⊥) → LacksWord word_reads (minus_sign ∷ rest) e
  other_minus rest no_one read t stands = false≢true (sym (minus_other rest (first_differs rest 49 no_one (λ e. omega arith))) ∙ read)

  pub reads_other_minus : (bs rest : List ℕ) → bs ≡ minus_sign ∷ rest → ((t : List ℕ) → rest ≡ 49 ∷ t → ⊥) → LacksWord word_reads bs e
  reads_other_minus bs rest minus no_one = rw minus (other_minus rest no_one)

  pub reads_no_minus : (bs : List ℕ) → ((t : List ℕ) → bs ≡ minus_sign ∷ t → ⊥) → (r : Option Word) → ReadsWord is_number bs e r
      → ReadsWord word_reads bs e r
  unfolding word_reads
  reads_no_minus bs no_minus r number_read = by_result r number_read
    where
      as_number : word_reads (first_word bs) ≡ is_number (first_word bs)
      as_number = rw (not_minus_one bs (first_differs bs minus_sign no_minus (λ e. omega arith)))

      by_result : (r : Option Word) → ReadsWord is_number bs e r → ReadsWord word_reads bs e r
      by_result (Some w) found = record { reads_it = as_number ∙ found.reads_it; value = found.value; stands = found.stands }
      by_result None none = λ read t stands. none (sym as_number ∙ read) t stands
