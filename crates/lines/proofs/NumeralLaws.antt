-- The digits that the library puts down, the fewest that hold a number, are its numeral; and how long a numeral is. By taking the last digit off.
-- Assumes nothing.
use Prim.Native.Nat.{ℕ, zero, suc, ◌-◌, ◌/◌, ◌%◌, ◌^◌, ◌≤◌, ◌<◌}
use native.Mathlib.Omega.{arith}
use native.Mathlib.Nat.{pow-suc, mod-lt, mod-eq_of_lt, div-lt_iff_lt-mul, le-div_iff_mul-le}
use mathlib.Core.Path.{◌≡◌, refl}
use mathlib.Core.Bool.{Bool, true, false}
use mathlib.Core.List.{[], ◌∷◌, ◌++◌}
use lib.ListN.{length, length-append}
use lib.Dec.{ltb, lit<}
use borrow.Author.Tests.{lt-ltb, le-ltb, ltb-true, ltb-false}
use Rattle.io.specs.Digits.{hex_digit_ascii, last_digits, IsDigitCount}
use Rattle.lines.specs.Lines.{digit_sign, numeral_within, numeral}

last_sign : (x : ℕ) → hex_digit_ascii (x % 10) ≡ digit_sign (x % 10)
last_sign x = rw (lt-ltb (x % 10) 10 (mod-lt x (lit< tt)))

positive : (j : ℕ) → 1 ≤ 10 ^ j
positive zero = omega arith
positive (suc j) = omega (arith, pow-suc 10 j, positive j)

power_above : (n : ℕ) → n < 10 ^ n
power_above zero = omega arith
power_above (suc n) = omega (arith, power_above n, pow-suc 10 n)

-- a number below 10, and one above
pub within_one : (n x : ℕ) → x < 10 → numeral_within (suc n) x ≡ digit_sign x ∷ []
unfolding numeral_within
within_one n x h = rw (numeral_within, lt-ltb x 10 h)

pub within_more : (n x : ℕ) → 10 ≤ x → numeral_within (suc n) x ≡ numeral_within n (x / 10) ++ (digit_sign (x % 10) ∷ [])
unfolding numeral_within
within_more n x h = rw (numeral_within, le-ltb x 10 h)

digits_within : (n k x : ℕ) → k ≤ n → IsDigitCount 10 1 x k → last_digits 10 k x ≡ numeral_within n x
digits_within n zero x few (some_digit, small, none_less) = absurd (omega arith)
digits_within zero (suc k) x few fewest = absurd (omega arith)
digits_within (suc n) (suc zero) x few (some_digit, small, none_less) =
    let low : x < 10 = omega (arith, pow-suc 10 0, small) in
    let same : x % 10 ≡ x = mod-eq_of_lt low in
    rw (last_sign x, within_one n x low, same)
digits_within (suc n) (suc (suc k)) x few (some_digit, small, none_less) =
    let last : suc (suc k) - 1 ≡ suc k = omega arith in
    let high : 10 ^ (suc k) ≤ x = rw last at (none_less (omega arith)) in
    let more : 10 ≤ x = omega (arith, pow-suc 10 k, positive k, high) in
    let before : suc k - 1 ≡ k = omega arith in
    let rest : IsDigitCount 10 1 (x / 10) (suc k) = (
      omega arith,
      (div-lt_iff_lt-mul {k = 10} (lit< tt)).1 (rw pow-suc at small),
      λ less. rw before ((le-div_iff_mul-le {k = 10} (lit< tt)).1 (rw pow-suc at high)),
    ) in
    rw (last_sign x, within_more n x more, digits_within n (suc k) (x / 10) (omega arith) rest)

pub numeral_digits : (k x : ℕ) → IsDigitCount 10 1 x k → last_digits 10 k x ≡ numeral x
unfolding numeral
numeral_digits k x fewest = digits_within (suc x) k x (enough k fewest) fewest
  where
    enough : (j : ℕ) → IsDigitCount 10 1 x j → j ≤ suc x
    enough zero f = omega arith
    enough (suc zero) f = omega arith
    enough (suc (suc j)) (some_digit, small, none_less) =
        let last : suc (suc j) - 1 ≡ suc j = omega arith in
        let high : 10 ^ (suc j) ≤ x = rw last at (none_less (omega arith)) in
        omega (arith, power_above (suc j))

within_length : (n k x : ℕ) → x < 10 ^ k → 1 ≤ k → length (numeral_within n x) ≤ k
unfolding numeral_within
within_length zero k x small some_digit = omega arith
within_length (suc n) zero x small some_digit = absurd (omega arith)
within_length (suc n) (suc k) x small some_digit = by_case (within_length n) (ltb x 10) refl
  where
    longer : (j : ℕ) → 10 ≤ x → x < 10 ^ (suc j) → 1 ≤ j
    longer zero high low = absurd (omega (arith, pow-suc 10 0))
    longer (suc j) high low = omega arith

    by_case : ((j y : ℕ) → y < 10 ^ j → 1 ≤ j → length (numeral_within n y) ≤ j) → (b : Bool) → ltb x 10 ≡ b → length (numeral_within (suc n) x) ≤ suc k
    by_case rest true e = rw (within_one n x (ltb-true x 10 e)) (omega arith)
    by_case rest false e =
        let high : 10 ≤ x = ltb-false x 10 e in
        let shorter : length (numeral_within n (x / 10)) ≤ k =
        rest k (x / 10) ((div-lt_iff_lt-mul {k = 10} (lit< tt)).1 (rw pow-suc at small)) (longer k high small) in
        rw (within_more n x high, length-append) (omega (arith, shorter))

-- a number below a power of ten has no more digits than that power's exponent
pub numeral_length : (k x : ℕ) → x < 10 ^ k → 1 ≤ k → length (numeral x) ≤ k
unfolding numeral
numeral_length k x small some_digit = within_length (suc x) k x small some_digit
