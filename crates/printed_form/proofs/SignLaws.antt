-- A line of numbers: its words are numbers or −1, and it is read as these, each as far as it is told from others. Assumes
-- nothing.
use Prim.Native.Nat.{ℕ, zero, suc, ◌-◌, ◌≤◌, ◌<◌}
use native.Mathlib.Omega.{arith}
use mathlib.Core.Path.{◌≡◌, refl, sym, ◌∙◌, ap}
use mathlib.Core.Bool.{Bool, true, false, not, ◌||◌, false≢true, true≢false}
use mathlib.Core.Option.{Option, none, some}
use mathlib.Core.List.{List, [], ◌∷◌, ◌++◌, map, nil≢cons, cons≢nil, head-eq_of_cons-eq, tail-eq_of_cons-eq}
use lib.ListN.{length, length-append}
use lib.Dec.{eqb, ltb}
use borrow.Author.Tests.{ne_eqb, eq-eqb, leb-true, ltb-true, ltb-false}
use Rattle.ascii.specs.Bytes.{space, line_end, ascii_zero, ascii_digit, ends_line, all_digits, decimal_from}
use Rattle.lines.specs.Lines.{numeral}
use Rattle.lines.proofs.NumeralTheorem.{both, numeral_stands, numeral_once, High, numeral_high, numeral_zero, digit_numeral, decimal_numeral}
use Rattle.fields.specs.Between.Fields.{ends_word, words_of, same, is_number, minus_one, word_reads, word_number, all_read, line_reads, line_numbers}
use Rattle.fields.specs.Between.Fields as fields
use Rattle.fields.proofs.ClassTheorem.{same_equal}
use Rattle.planner.specs.Printed.{number, numbers, joined}
use Rattle.planner.specs.Broken.{OneLine}
use Rattle.printed_form.specs.Between.Datum.{sat}
use Rattle.printed_form.proofs.JoinLaws.{Free, AllFree, SomeWords, words_joined, joined_words, one_line}

-- a digit is none of a sign, a space and a line end
digit_low : (b : ℕ) → ascii_digit b ≡ true → ascii_zero ≤ b
digit_low b e = leb-true ascii_zero b (both _ _ e).0

above : (d : ℕ) → ascii_zero ≤ d → (d ≡ ascii_zero → ⊥) → ascii_zero < d
above d low other = by_case (ltb ascii_zero d) refl
  where
    by_case : (b : Bool) → ltb ascii_zero d ≡ b → ascii_zero < d
    by_case true e = ltb-true ascii_zero d e
    by_case false e = absurd (other (omega (arith, ltb-false ascii_zero d e)))

digits_free : (test : ℕ → Bool) → ((b : ℕ) → ascii_zero ≤ b → test b ≡ false) → (ds : List ℕ) → all_digits ds ≡ true → Free test ds
unfolding all_digits
digits_free test other [] all = tt
digits_free test other (d ∷ ds) all =
    let (here, there) = both (ascii_digit d) (all_digits ds) all in (other d (digit_low d here), digits_free test other ds there)

no_sign : (ds : List ℕ) → all_digits ds ≡ true → same ds minus_one ≡ false
unfolding all_digits same
no_sign [] all = refl
no_sign (d ∷ ds) all =
    let low : ascii_zero ≤ d = digit_low d (both (ascii_digit d) (all_digits ds) all).0 in rw (ne_eqb d 45 (λ e. omega arith))

-- a word of a line of numbers holds no space, and no line end
pub number_free : (test : ℕ → Bool) → ((b : ℕ) → ascii_zero ≤ b → test b ≡ false) → test 45 ≡ false → (x : Option ℕ) → Free test (number x)
number_free test other sign none = (sign, (other 49 (omega arith), tt))
number_free test other sign (some n) = digits_free test other (numeral n) (numeral_stands n).all

number_lines : (x : Option ℕ) → Free ends_line (number x)
number_lines x = number_free ends_line (λ b low. ne_eqb b line_end (λ e. omega arith)) refl x

free_append : (bs cs : List ℕ) → Free ends_line bs → Free ends_line cs → Free ends_line (bs ++ cs)
free_append [] cs free more = more
free_append (b ∷ bs) cs (here, there) more = (here, free_append bs cs there more)

words_free : (xs : List (Option ℕ)) → AllFree ends_word (map number xs)
words_free [] = tt
words_free (x ∷ xs) = (number_free ends_word (λ b low. ne_eqb b space (λ e. omega arith)) refl x, words_free xs)

-- a numeral is a number with no needless zero
leading : (ds : List ℕ) → all_digits ds ≡ true → High ds → is_number ds ≡ true
unfolding is_number all_digits
leading [] all high = elim high [ ]
leading (d ∷ ds) all high = rw (all, ne_eqb d ascii_zero (λ e. omega arith))

numeral_is : (n : ℕ) → is_number (numeral n) ≡ true
unfolding is_number all_digits
numeral_is zero = rw numeral_zero
numeral_is (suc n) = leading (numeral (suc n)) (numeral_stands (suc n)).all (numeral_high (suc n) (omega arith))

pub number_reads : (x : Option ℕ) → (word_reads (number x) ≡ true) × (word_number (number x) ≡ sat x)
unfolding word_reads word_number same fields.number
number_reads none = (refl, refl)
number_reads (some n) =
    let sign : same (numeral n) minus_one ≡ false = no_sign (numeral n) (numeral_stands n).all in
    (rw (sign, numeral_is n), rw (sign, (numeral_stands n).value))

-- a word that reads is a number or −1
digits_are : (w : List ℕ) → is_number w ≡ true → (x : Option ℕ) × (number x ≡ w)
unfolding is_number all_digits
digits_are [] e = absurd (false≢true e)
digits_are (d ∷ ds) e = by_zero (eqb d ascii_zero) refl ds (both (all_digits (d ∷ ds)) _ e)
  where
    alone : (all : all_digits (d ∷ []) ≡ true) → (x : Option ℕ) × (number x ≡ d ∷ [])
    alone all = (some (d - ascii_zero), digit_numeral d (both (ascii_digit d) true all).0)

    by_zero : (b : Bool) → eqb d ascii_zero ≡ b → (es : List ℕ) → (all_digits (d ∷ es) ≡ true) × ((not (eqb d ascii_zero) || eqb (length es) 0) ≡ true)
        → (x : Option ℕ) × (number x ≡ d ∷ es)
    by_zero b is [] (all, lead) = alone all
    by_zero true is (f ∷ es) (all, lead) = absurd (false≢true (sym (ne_eqb (length (f ∷ es)) 0 (λ z. omega arith)) ∙ (rw is at lead)))
    by_zero false is (f ∷ es) (all, lead) =
        let low : ascii_zero ≤ d = digit_low d (both (ascii_digit d) (all_digits (f ∷ es)) all).0 in
        let other : d ≡ ascii_zero → ⊥ = λ same_digit. false≢true (sym is ∙ eq-eqb d ascii_zero same_digit) in
        (some (decimal_from 0 (d ∷ f ∷ es)), decimal_numeral d (f ∷ es) all (above d low other))

pub word_is : (w : List ℕ) → word_reads w ≡ true → (x : Option ℕ) × (number x ≡ w)
unfolding word_reads
word_is w e = by_sign (same w minus_one) refl
  where
    by_sign : (b : Bool) → same w minus_one ≡ b → (x : Option ℕ) × (number x ≡ w)
    by_sign true s = (none, sym (same_equal w minus_one s))
    by_sign false s = digits_are w (rw s at e)

-- and just one
sign_other : (n : ℕ) → number none ≡ number (some n) → ⊥
unfolding same
sign_other n e = true≢false (ap (λ w. same w minus_one) e ∙ no_sign (numeral n) (numeral_stands n).all)

pub number_once : (x y : Option ℕ) → number x ≡ number y → x ≡ y
number_once none none e = refl
number_once none (some n) e = absurd (sign_other n e)
number_once (some n) none e = absurd (sign_other n (sym e))
number_once (some n) (some m) e = ap some (numeral_once n m e)

pub numbers_once_each : (xs ys : List (Option ℕ)) → map number xs ≡ map number ys → xs ≡ ys
numbers_once_each [] [] e = refl
numbers_once_each [] (y ∷ ys) e = absurd (nil≢cons e)
numbers_once_each (x ∷ xs) [] e = absurd (cons≢nil e)
numbers_once_each (x ∷ xs) (y ∷ ys) e =
    let here : x ≡ y = number_once x y (head-eq_of_cons-eq e) in
    let later : xs ≡ ys = numbers_once_each xs ys (tail-eq_of_cons-eq e) in
    cc

-- a line of some numbers
abbrev pub Any : List (Option ℕ) → Type 0
Any [] = ⊥
Any (x ∷ xs) = Unit

some_words : (xs : List (Option ℕ)) → Any xs → SomeWords (map number xs)
some_words [] any = elim any [ ]
some_words (x ∷ xs) any = tt

words_of_numbers : (xs : List (Option ℕ)) → Any xs → words_of (numbers xs) ≡ map number xs
words_of_numbers xs any = words_joined (map number xs) (some_words xs any) (words_free xs)

all_numbers_read : (xs : List (Option ℕ)) → all_read (map number xs) ≡ true
unfolding all_read
all_numbers_read [] = refl
all_numbers_read (x ∷ xs) = rw (number_reads x).0 (all_numbers_read xs)

all_numbers_told : (xs : List (Option ℕ)) → map word_number (map number xs) ≡ map sat xs
all_numbers_told [] = refl
all_numbers_told (x ∷ xs) = let here = (number_reads x).1 in let there = all_numbers_told xs in cc

pub numbers_read : (xs : List (Option ℕ)) → Any xs → line_reads (numbers xs) ≡ true
numbers_read xs any = ap all_read (words_of_numbers xs any) ∙ all_numbers_read xs

pub numbers_told : (xs : List (Option ℕ)) → Any xs → line_numbers (numbers xs) ≡ map sat xs
numbers_told xs any = ap (map word_number) (words_of_numbers xs any) ∙ all_numbers_told xs

pub numbers_once : (xs ys : List (Option ℕ)) → Any xs → Any ys → numbers xs ≡ numbers ys → xs ≡ ys
numbers_once xs ys any also e =
    numbers_once_each xs ys (sym (words_of_numbers xs any) ∙ ap words_of e ∙ words_of_numbers ys also)

-- a line that reads is one
all_are : (ws : List (List ℕ)) → all_read ws ≡ true → (xs : List (Option ℕ)) × (map number xs ≡ ws)
unfolding all_read
all_are [] e = ([], refl)
all_are (w ∷ ws) e =
    let (here, there) = both (word_reads w) (all_read ws) e in
    let (x, is) = word_is w here in
    let (xs, are) = all_are ws there in
    (x ∷ xs, cons_eq is are)
  where
    cons_eq : {v w : List ℕ} {vs ws : List (List ℕ)} → v ≡ w → vs ≡ ws → v ∷ vs ≡ w ∷ ws
    cons_eq e f = cc

pub line_is : (l : List ℕ) → line_reads l ≡ true → (xs : List (Option ℕ)) × Any xs × (numbers xs ≡ l)
line_is l e =
    let (xs, are) = all_are (words_of l) e in
    (xs, any xs are, ap joined are ∙ joined_words l)
  where
    any : (xs : List (Option ℕ)) → map number xs ≡ words_of l → Any xs
    any [] none_there = absurd (nil≢cons none_there)
    any (x ∷ xs) some_there = tt

-- each number takes a byte
number_long : (x : Option ℕ) → 1 ≤ length (number x)
number_long none = omega arith
number_long (some n) = (numeral_stands n).some_digit

pub numbers_long : (xs : List (Option ℕ)) → length xs ≤ length (numbers xs)
unfolding joined
numbers_long [] = omega arith
numbers_long (x ∷ []) = omega (arith, number_long x)
numbers_long (x ∷ y ∷ xs) = rw (length-append (number x) (space ∷ numbers (y ∷ xs))) (omega (arith, number_long x, numbers_long (y ∷ xs)))

-- and none is a line end
numbers_free : (xs : List (Option ℕ)) → Free ends_line (numbers xs)
unfolding joined
numbers_free [] = tt
numbers_free (x ∷ []) = number_lines x
numbers_free (x ∷ y ∷ xs) = free_append (number x) (space ∷ numbers (y ∷ xs)) (number_lines x) (refl, numbers_free (y ∷ xs))

pub numbers_one_line : (xs : List (Option ℕ)) → OneLine (numbers xs)
numbers_one_line xs = one_line (numbers xs) (numbers_free xs)
