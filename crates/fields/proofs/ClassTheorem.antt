-- A line of numbers holds digits, minuses and spaces and nothing else: where it reads, no byte of it is of another class. Assumes nothing.
use Prim.Native.Nat.{ℕ}
use mathlib.Core.Path.{◌≡◌, refl, ◌∙◌, ap}
use mathlib.Core.Logic.{◌⊎◌, inl, inr}
use mathlib.Core.Bool.{Bool, true, false, false≢true}
use mathlib.Core.List.Memᴰ
use mathlib.Core.List.{List, [], ◌∷◌, Memᴰ}
use lib.Dec.{eqb}
use borrow.Author.Tests.{eqb-true}
use Rattle.ascii.specs.Bytes.{space, ascii_digit, split, all_digits}
use Rattle.ascii.proofs.SplitLaws.{split_at, split_in}
use Rattle.fields.specs.declared.class.Class.TheVariants.{Digit, Minus, Space}
use Rattle.fields.specs.Between.Fields.{minus_sign, ends_word, class_of, words_of, same, minus_one, word_reads, all_read, line_reads}
use Rattle.fields.proofs.WordLaws.{number_digits}

-- the class of a minus, and of a space
class_minus : (b : ℕ) → b ≡ minus_sign → class_of b ≡ Minus
unfolding class_of
class_minus b e = rw e

class_space : (b : ℕ) → b ≡ space → class_of b ≡ Space
unfolding class_of
class_space b e = rw e

-- a byte of a word
abbrev InWord : ℕ → Type 0
InWord b = (class_of b ≡ Digit) ⊎ (class_of b ≡ Minus)

digit_class : (b : ℕ) → ascii_digit b ≡ true → class_of b ≡ Digit
unfolding class_of
digit_class b e = rw (class_of, e)

digits_in_word : (w : List ℕ) → all_digits w ≡ true → (b : ℕ) → Memᴰ b w → InWord b
unfolding all_digits
digits_in_word [] e b m = absurd (Memᴰ.not-nil m)
digits_in_word (d ∷ ds) e b m = by_case (ascii_digit d) refl (digits_in_word ds) (Memᴰ.cases_cons m)
  where
    by_case : (t : Bool) → ascii_digit d ≡ t → (all_digits ds ≡ true → (b : ℕ) → Memᴰ b ds → InWord b) → (b ≡ d) ⊎ Memᴰ b ds → InWord b
    by_case true is rest (inl here) = inl (ap class_of here ∙ digit_class d is)
    by_case true is rest (inr later) = rest (rw is at e) b later
    by_case false is rest n = absurd (false≢true (rw is at e))

minus_one_in_word : (b : ℕ) → Memᴰ b minus_one → InWord b
unfolding class_of
minus_one_in_word b m = first (Memᴰ.cases_cons m)
  where
    second : (b ≡ 49) ⊎ Memᴰ b [] → InWord b
    second (inl e) = inl (ap class_of e)
    second (inr n) = absurd (Memᴰ.not-nil n)

    first : (b ≡ minus_sign) ⊎ Memᴰ b (49 ∷ []) → InWord b
    first (inl e) = inr (class_minus b e)
    first (inr n) = second (Memᴰ.cases_cons n)

-- two runs that are the same are equal
pub same_equal : (xs ys : List ℕ) → same xs ys ≡ true → xs ≡ ys
unfolding same
same_equal [] [] e = refl
same_equal [] (y ∷ ys) e = absurd (false≢true e)
same_equal (x ∷ xs) [] e = absurd (false≢true e)
same_equal (x ∷ xs) (y ∷ ys) e = by_case (eqb x y) refl (same_equal xs ys)
  where
    by_case : (t : Bool) → eqb x y ≡ t → (same xs ys ≡ true → xs ≡ ys) → x ∷ xs ≡ y ∷ ys
    by_case true is rest = let here : x ≡ y = eqb-true x y is in let later : xs ≡ ys = rest (rw is at e) in cc
    by_case false is rest = absurd (false≢true (rw is at e))

word_classes : (w : List ℕ) → word_reads w ≡ true → (b : ℕ) → Memᴰ b w → InWord b
unfolding word_reads
word_classes w e b m = by_case (same w minus_one) refl
  where
    by_case : (t : Bool) → same w minus_one ≡ t → InWord b
    by_case true is = minus_one_in_word b (rw (same_equal w minus_one is) at m)
    by_case false is = digits_in_word w (number_digits w (rw is at e)) b m

all_words_read : (ws : List (List ℕ)) → all_read ws ≡ true → (w : List ℕ) → Memᴰ w ws → word_reads w ≡ true
unfolding all_read
all_words_read [] e w m = absurd (Memᴰ.not-nil m)
all_words_read (v ∷ vs) e w m = by_case (word_reads v) refl (all_words_read vs) (Memᴰ.cases_cons m)
  where
    by_case : (t : Bool) → word_reads v ≡ t → (all_read vs ≡ true → (w : List ℕ) → Memᴰ w vs → word_reads w ≡ true) → (w ≡ v) ⊎ Memᴰ w vs
        → word_reads w ≡ true
    by_case true is rest (inl here) = ap word_reads here ∙ is
    by_case true is rest (inr later) = rest (rw is at e) w later
    by_case false is rest n = absurd (false≢true (rw is at e))

-- words all of whose bytes are bytes of words
abbrev AllInWord : List (List ℕ) → Type 0
AllInWord ws = (w : List ℕ) → Memᴰ w ws → (b : ℕ) → Memᴰ b w → InWord b

-- as are those without the first byte
shorter : (d : ℕ) (w : List ℕ) (ws : List (List ℕ)) → AllInWord ((d ∷ w) ∷ ws) → AllInWord (w ∷ ws)
shorter d w ws all v m b n = by_case (Memᴰ.cases_cons m)
  where
    by_case : (v ≡ w) ⊎ Memᴰ v ws → InWord b
    by_case (inl here) = all (d ∷ w) (Memᴰ.head refl) b (Memᴰ.tail (rw here at n))
    by_case (inr later) = all v (Memᴰ.tail later) b n

-- a byte of a line is one of a word, or a space
line_bytes : (line : List ℕ) → AllInWord (words_of line) → (b : ℕ) → Memᴰ b line → InWord b ⊎ (ends_word b ≡ true)
line_bytes [] all b m = absurd (Memᴰ.not-nil m)
line_bytes (d ∷ ds) all b m = by_case (ends_word d) refl (line_bytes ds) (Memᴰ.cases_cons m)
  where
    by_case : (t : Bool) → ends_word d ≡ t → (AllInWord (words_of ds) → (b : ℕ) → Memᴰ b ds → InWord b ⊎ (ends_word b ≡ true))
        → (b ≡ d) ⊎ Memᴰ b ds → InWord b ⊎ (ends_word b ≡ true)
    by_case true is rest (inl here) = inr (ap ends_word here ∙ is)
    by_case true is rest (inr later) =
        let all_words : AllInWord ([] ∷ words_of ds) = rw (split_at ends_word d ds is) at all in
        rest (λ w n. all_words w (Memᴰ.tail n)) b later
    by_case false is rest (inl here) =
        let all_words : AllInWord ((d ∷ (split ends_word ds).first) ∷ (split ends_word ds).others) = rw (split_in ends_word d ds is) at all in
        inl (all_words (d ∷ (split ends_word ds).first) (Memᴰ.head refl) b (Memᴰ.head here))
    by_case false is rest (inr later) =
        let all_words : AllInWord ((d ∷ (split ends_word ds).first) ∷ (split ends_word ds).others) = rw (split_in ends_word d ds is) at all in
        rest (shorter d (split ends_word ds).first (split ends_word ds).others all_words) b later

-- "only names and keyword lines may hold something else": a line of numbers does not
pub classes_of_numbers : (line : List ℕ) → line_reads line ≡ true → (b : ℕ) → Memᴰ b line
    → (class_of b ≡ Digit) ⊎ (class_of b ≡ Minus) ⊎ (class_of b ≡ Space)
classes_of_numbers line e b m = by_case (line_bytes line (λ w n. word_classes w (all_words_read (words_of line) e w n)) b m)
  where
    by_case : InWord b ⊎ (ends_word b ≡ true) → (class_of b ≡ Digit) ⊎ (class_of b ≡ Minus) ⊎ (class_of b ≡ Space)
    by_case (inl (inl digit)) = inl digit
    by_case (inl (inr minus)) = inr (inl minus)
    by_case (inr is_space) = inr (inr (class_space b (eqb-true b space is_space)))
