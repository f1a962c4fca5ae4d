-- A word by the places of its ones, digit by digit, and its lowest one, which the count of trailing zeros finds, by induction on their number; and a turn of the
-- loop that writes words at the places of ones: what it leaves makes with it what was to be written. Assumes nothing.
use Prim.Native.Nat.{ℕ, zero, suc, ◌+◌, ◌-◌, ◌*◌, ◌/◌, ◌%◌, ◌^◌, ◌≤◌, ◌<◌}
use native.Mathlib.Nat.{add-zero, one-mul, pow-suc}
use native.Mathlib.Numerals.{add-one}
use native.Mathlib.Omega.{arith}
use mathlib.Core.Path.{◌≡◌, refl, ◌∙◌}
use mathlib.Core.Bool.{Bool, true, false}
use mathlib.Core.List.{List, [], ◌∷◌}
use lib.ListN.{length, get_or, set}
use lib.Seq.{sets}
use lib.Arith.{lt-one}
use lib.Count.{under, count_trailing_zeros}
use lib.Pow.{pow_pos, shl_exact}
use lib.Dec.{eqb, lit<}
use Rattle.access.specs.Bits.{word_bits}
use Rattle.access.specs.Between.Places.{ones_at, at_places}

-- a word by its lowest digit
pub ones_at_odd : (i n w : ℕ) → w % 2 ≡ 1 → ones_at i (suc n) w ≡ i ∷ ones_at (i + 1) n (w / 2)
unfolding ones_at
ones_at_odd i n w odd = rw (odd, ones_at)

pub ones_at_even : (i n w : ℕ) → w % 2 ≡ 0 → ones_at i (suc n) w ≡ ones_at (i + 1) n (w / 2)
unfolding ones_at
ones_at_even i n w even = rw (even, ones_at)

-- no one is left in zero
pub ones_at_none : (i n : ℕ) → ones_at i n 0 ≡ []
unfolding ones_at
ones_at_none i zero = refl
ones_at_none i (suc n) = ones_at_none (i + 1) n

-- there are no more of them than digits
pub ones_at_few : (i n w : ℕ) → length (ones_at i n w) ≤ n
unfolding ones_at
ones_at_few i zero w = omega arith
ones_at_few i (suc n) w = by_digit (eqb (w % 2) 1) refl (ones_at_few (i + 1) n (w / 2))
  where
    by_digit : (b : Bool) → eqb (w % 2) 1 ≡ b → length (ones_at (i + 1) n (w / 2)) ≤ n → length (ones_at i (suc n) w) ≤ suc n
    by_digit true odd few = rw (odd, ones_at) (omega arith)
    by_digit false even few = rw (even, ones_at) (omega arith)

-- bit t is the lowest one among the n digits of w, where the lowest digit has place i: with it cleared the other ones are left
pub record Lowest (i n w t : ℕ) : Type 0 where
  pub low : t < n
  pub within : 2 ^ t ≤ w
  pub first : ones_at i n w ≡ (i + t) ∷ ones_at i n (w - 2 ^ t)

lowest_here : (i n w : ℕ) → w % 2 ≡ 1 → Lowest i (suc n) w 0
lowest_here i n w odd =
    let even : (w - 1) % 2 ≡ 0 = omega arith in
    let same : (w - 1) / 2 ≡ w / 2 = omega arith in
    record { low = omega arith; within = omega arith; first = rw (ones_at_odd i n w odd, ones_at_even i n (w - 1) even, same, add-zero) }

lowest_above : (i n w t : ℕ) → w % 2 ≡ 0 → Lowest (i + 1) n (w / 2) t → Lowest i (suc n) w (suc t)
lowest_above i n w t even above =
    let power : 2 ^ suc t ≡ 2 ^ t * 2 = pow-suc 2 t in
    let still : (w - 2 ^ suc t) % 2 ≡ 0 = omega (arith, above.within) in
    let half : (w - 2 ^ suc t) / 2 ≡ w / 2 - 2 ^ t = omega (arith, above.within) in
    let place : i + 1 + t ≡ i + suc t = omega arith in
    record {
      low = omega (arith, above.low);
      within = omega (arith, above.within);
      first = ones_at_even i n w even ∙ above.first ∙ rw (place, ones_at_even i n (w - 2 ^ suc t) still, half);
    }

-- "trailing zeros find the next kept step"
pub lowest_one : (i n w : ℕ) → 0 < w → w < 2 ^ n → Lowest i n w (count_trailing_zeros n w)
unfolding count_trailing_zeros
lowest_one i zero w some fits = absurd (omega (arith, lt-one fits))
lowest_one i (suc n) w some fits = by_digit (λ even. lowest_one (i + 1) n (w / 2) (omega arith) (omega (arith, pow-suc 2 n))) (w % 2) refl
  where
    by_digit : (w % 2 ≡ 0 → Lowest (i + 1) n (w / 2) (count_trailing_zeros n (w / 2))) → (d : ℕ) → w % 2 ≡ d → Lowest i (suc n) w (under d (count_trailing_zeros n (w / 2)))
    by_digit above zero even = lowest_above i n w (count_trailing_zeros n (w / 2)) even (above even)
    by_digit above (suc d) odd = lowest_here i n w (omega arith)

-- the word with the lowest one of w alone, as the code shifts it
abbrev pub lowest_bit : ℕ → ℕ
lowest_bit w = 1 * 2 ^ count_trailing_zeros word_bits w % 2 ^ word_bits

-- a turn of the loop that writes a word out: the word at the place of the lowest one is stored, and that one is cleared
pub record Turn (i w : ℕ) : Type 0 where
  pub low : count_trailing_zeros word_bits w < word_bits
  pub within : lowest_bit w ≤ w
  pub falls : w - lowest_bit w < w
  pub stored : (words out : List ℕ) (to : ℕ)
      → sets (set out to (get_or words (i + count_trailing_zeros word_bits w) 0)) (to + 1) (at_places words (ones_at i word_bits (w - lowest_bit w)))
      ≡ sets out to (at_places words (ones_at i word_bits w))
  pub passed : (to : ℕ) → to + 1 + length (ones_at i word_bits (w - lowest_bit w)) ≡ to + length (ones_at i word_bits w)

pub turn : (i w : ℕ) → (w ≡ 0 → ⊥) → w < 2 ^ word_bits → Turn i w
turn i w some fits =
    let lowest : Lowest i word_bits w (count_trailing_zeros word_bits w) = lowest_one i word_bits w (omega arith) fits in
    let bit : lowest_bit w ≡ 2 ^ count_trailing_zeros word_bits w =
    shl_exact 1 (count_trailing_zeros word_bits w) word_bits (lit< tt) (omega (arith, lowest.low)) ∙ one-mul (2 ^ count_trailing_zeros word_bits w) in
    record {
      low = lowest.low;
      within = rw bit lowest.within;
      falls = rw bit (omega (arith, pow_pos (count_trailing_zeros word_bits w)));
      stored = λ words out to. rw (bit, lowest.first, add-one);
      passed = λ to. rw (bit, lowest.first) (omega arith);
    }

-- where no one is left, nothing is left to be written
module _ (i w : ℕ) (none : w ≡ 0) where
  pub all_stored : (words out : List ℕ) (to : ℕ) → sets out to (at_places words (ones_at i word_bits w)) ≡ out
  all_stored words out to = rw (none, ones_at_none)

  pub all_passed : (to : ℕ) → to + length (ones_at i word_bits w) ≡ to
  all_passed to = rw (none, ones_at_none, add-zero)
