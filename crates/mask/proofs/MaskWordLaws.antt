-- A word by its binary digits: its size, each of its bits, the number of its ones and their places, by induction on the digits. Assumes nothing.
use Prim.Native.Nat.{ℕ, zero, suc, ◌+◌, ◌*◌, ◌/◌, ◌%◌, ◌^◌, ◌<◌}
use native.Mathlib.Nat.{pow-suc, pow-succ', zero-div, div-div-eq-div-mul}
use native.Mathlib.Numerals.{add-one}
use native.Mathlib.Omega.{arith}
use mathlib.Core.Path.{◌≡◌, refl}
use mathlib.Core.Bool.{Bool, true, false}
use mathlib.Core.List.{[], ◌∷◌}
use lib.ListN.{get_or, take, drop}
use lib.Seq.{take-nil, drop-nil}
use lib.Count.{ones, ones_step}
use lib.Pow.{pow_pos}
use Rattle.access.specs.Between.Places.{ones_at}
use Rattle.access.proofs.OnesLaws.{ones_at_odd, ones_at_even}
use Rattle.reduction.specs.Reduction.{Reduction, count}
use Rattle.mask.specs.Mask.{digit, binary}

digit_low : (b : Bool) → digit b < 2
digit_low true = omega arith
digit_low false = omega arith

-- a word of n digits is below 2 ^ n
pub binary_below : (n : ℕ) (m : Reduction) → binary (take n m) < 2 ^ n
unfolding binary
binary_below zero m = omega arith
binary_below (suc n) [] = pow_pos (suc n)
binary_below (suc n) (b ∷ m) = rw pow-suc (omega (arith, binary_below n m, digit_low b))

-- one digit more, below the others
pub binary_next : (n j : ℕ) (m : Reduction) → binary (take (suc n) (drop j m)) ≡ 2 * binary (take n (drop (j + 1) m)) + digit (get_or m j false)
unfolding binary
binary_next n zero [] = rw take-nil
binary_next n zero (b ∷ m) = refl
binary_next n (suc j) [] = rw (drop-nil, take-nil)
binary_next n (suc j) (b ∷ m) = rw add-one (rw add-one at (binary_next n j m))

pub lowest_digit : (n : ℕ) (b : Bool) → (2 * n + digit b) % 2 ≡ digit b
lowest_digit n b = omega (arith, digit_low b)

pub other_digits : (n : ℕ) (b : Bool) → (2 * n + digit b) / 2 ≡ n
other_digits n b = omega (arith, digit_low b)

-- bit i of a word is its digit i
pub binary_bit : (m : Reduction) (i : ℕ) → binary m / 2 ^ i % 2 ≡ digit (get_or m i false)
unfolding binary
binary_bit [] i = rw zero-div
binary_bit (b ∷ m) zero = omega (arith, digit_low b)
binary_bit (b ∷ m) (suc i) = rw (pow-succ', ← div-div-eq-div-mul, other_digits) (binary_bit m i)

-- and its ones are the flags that are true
pub binary_ones : (m : Reduction) → ones (binary m) ≡ count m
unfolding binary count ones
binary_ones [] = refl
binary_ones (true ∷ m) = rw (ones_step (2 * binary m + 1), lowest_digit _ true, other_digits _ true) (omega (arith, binary_ones m))
binary_ones (false ∷ m) = rw (ones_step (2 * binary m + 0), lowest_digit _ false, other_digits _ false) (omega (arith, binary_ones m))

-- the lowest digit of a word, and the others
pub ones_at_kept : (i n w : ℕ) → ones_at i (suc n) (2 * w + digit true) ≡ i ∷ ones_at (i + 1) n w
ones_at_kept i n w = rw (ones_at_odd i n (2 * w + 1) (lowest_digit w true), other_digits w true)

pub ones_at_struck : (i n w : ℕ) → ones_at i (suc n) (2 * w + digit false) ≡ ones_at (i + 1) n w
ones_at_struck i n w = rw (ones_at_even i n (2 * w + 0) (lowest_digit w false), other_digits w false)
