-- The digits in front of bytes, by the next byte, and the number that they stand for: it stops growing above every limit. Assumes nothing.
use Prim.Native.Nat.{ℕ, ◌+◌, ◌-◌, ◌*◌, min, ◌≤◌, ◌<◌}
use native.Mathlib.Omega.{arith}
use mathlib.Core.Path.{◌≡◌, refl, sym, ◌∙◌, ap}
use mathlib.Core.Bool.{Bool, true, false, ◌&&◌}
use mathlib.Core.List.{List, [], ◌∷◌}
use lib.ListN.{length}
use lib.Dec.{leb}
use borrow.Author.Tests.{leb-true, leb-false}
use Rattle.ascii.specs.Bytes.{ascii_zero, ascii_nine, ascii_digit, decimal_from}
use Rattle.fields.specs.Between.Numbers.{most_number}
use Rattle.fields.specs.Between.Fields.{number}
use Rattle.std.specs.Borrow.{Bor}
use Rattle.fields.specs.Between.Reading.{grown, number_from, leading_digits, behind_digits, DigitsLeft, ReadsDigits}

-- a digit is no smaller than the first
pub digit_from_zero : (b : ℕ) → ascii_digit b ≡ true → ascii_zero ≤ b
digit_from_zero b e = leb-true ascii_zero b (first (leb ascii_zero b) (leb b ascii_nine) e)
  where
    first : (s t : Bool) → (s && t) ≡ true → s ≡ true
    first true t h = refl
    first false t h = h

-- more digits make no smaller number
no_smaller : (v : ℕ) (bs : List ℕ) → v ≤ decimal_from v bs
unfolding decimal_from
no_smaller v [] = omega arith
no_smaller v (b ∷ bs) = omega (arith, no_smaller (10 * v + (b - ascii_zero)) bs)

-- so a number above every limit may stay at the first such number
stays_large : (v : ℕ) (bs : List ℕ) → number_from (min most_number v) bs ≡ number_from v bs
stays_large v bs = by_case (leb v most_number) refl
  where
    by_case : (t : Bool) → leb v most_number ≡ t → number_from (min most_number v) bs ≡ number_from v bs
    by_case true e = let fits : min most_number v ≡ v = omega (arith, leb-true v most_number e) in rw fits
    by_case false e =
        let large : most_number < v = leb-false v most_number e in
        let most : min most_number v ≡ most_number = omega arith in
        rw most (omega (arith, no_smaller most_number bs, no_smaller v bs))

pub grows : (v b : ℕ) (bs : List ℕ) → number_from (grown v b) bs ≡ number_from v (b ∷ bs)
unfolding decimal_from
grows v b bs = stays_large (10 * v + (b - ascii_zero)) bs

pub leading_in : (b : ℕ) (bs : List ℕ) → ascii_digit b ≡ true → leading_digits (b ∷ bs) ≡ b ∷ leading_digits bs
unfolding leading_digits
leading_in b bs e = rw (leading_digits, e)

pub leading_at : (b : ℕ) (bs : List ℕ) → ascii_digit b ≡ false → leading_digits (b ∷ bs) ≡ []
unfolding leading_digits
leading_at b bs e = rw (leading_digits, e)

pub number_small : (ds : List ℕ) → number ds ≤ most_number
unfolding number
number_small ds = omega arith

module _ (bs : List ℕ) where
  pub digits_begin : DigitsLeft bs 0 bs
  unfolding number
  digits_begin = record { number_left = refl; behind_left = refl; small = omega arith }

  module _ (value : ℕ) (rest : List ℕ) (so_far : DigitsLeft bs value rest) where
    -- no digit is left
    no_digit_left : leading_digits rest ≡ [] → {p : Bor (List ℕ)} → p.now ≡ rest → ReadsDigits bs (record { value = value; rest = p })
    unfolding decimal_from
    no_digit_left none left =
        let same_number : number_from value [] ≡ number (leading_digits bs) = rw none at so_far.number_left in
        let same_rest : rest ≡ behind_digits bs = rw none at so_far.behind_left in
        record { value = sym (omega (arith, so_far.small)) ∙ same_number; rest = left ∙ same_rest }

    pub digits_over : length rest ≡ 0 → {p : Bor (List ℕ)} → p.now ≡ rest → ReadsDigits bs (record { value = value; rest = p })
    unfolding leading_digits
    digits_over empty = no_digit_left (by_rest rest empty)
      where
        by_rest : (l : List ℕ) → length l ≡ 0 → leading_digits l ≡ []
        by_rest [] e = refl
        by_rest (d ∷ l) e = absurd (omega arith)

    module _ (d : ℕ) (after : List ℕ) (begins : rest ≡ d ∷ after) where
      pub digits_ended : ascii_digit d ≡ false → {p : Bor (List ℕ)} → p.now ≡ rest → ReadsDigits bs (record { value = value; rest = p })
      digits_ended e = no_digit_left (rw begins (leading_at d after e))

      pub digits_next : ascii_digit d ≡ true → (more : ℕ) → more ≡ grown value d → DigitsLeft bs more after
      digits_next e more is =
          let in_front : leading_digits rest ≡ d ∷ leading_digits after = rw begins (leading_in d after e) in
          record {
            number_left = rw is (grows value d (leading_digits after)) ∙ ap (number_from value) (sym in_front) ∙ so_far.number_left;
            behind_left = behind in_front ∙ so_far.behind_left;
            small = omega (arith, is);
          }
        where
          behind : leading_digits rest ≡ d ∷ leading_digits after → behind_digits after ≡ behind_digits rest
          behind e = rw (e, begins)
