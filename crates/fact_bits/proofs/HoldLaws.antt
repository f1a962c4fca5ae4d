-- The facts whose bits are one hold just where no fact that passes the test which the bits tell is missing, where each fact has a bit. Where the bits tell the
-- facts that fail a test, none that passes it is missing where each fact has its bit or holds, whether there are bits for all or not; and the bits that are
-- left of all are those of the facts that pass. By list induction. Assumes nothing.
use Prim.Native.Nat.{ℕ, zero, suc, ◌+◌, ◌-◌, ◌*◌, ◌/◌, ◌%◌, ◌^◌, ◌≤◌, ◌<◌}
use native.Mathlib.Nat.{pow-suc}
use native.Mathlib.Omega.{arith}
use mathlib.Core.Path.{◌≡◌, refl, sym}
use mathlib.Core.Bool.{Bool, true, false, true≢false, not, ◌&&◌, ◌||◌, and-eq-true_iff}
use mathlib.Core.List.{[], ◌∷◌, map, Memᴰ}
use lib.ListN.{length, take}
use lib.Dec.{eqb}
use Rattle.sas.specs.Task.{Fact, Assignment, State}
use Rattle.sas.specs.Plan.{holds}
use Rattle.sas.specs.Conflict.{some_of}
use Rattle.mask.specs.Mask.{digit, binary}
use Rattle.mask.proofs.MaskWordLaws.{lowest_digit, other_digits, binary_below}
use Rattle.fact_bits.specs.Between.Bits.{bits_hold, idle_or_held}

-- one fact's bit b, and whether a later fact is missing
bit_tested : (b held later : Bool) → (not (eqb (digit b) 1 && not held) && not later) ≡ not (b && not held || later)
bit_tested true true later = refl
bit_tested true false later = refl
bit_tested false held later = refl

module _ (s : State) (told test : Fact → Bool) where
  -- the bits are those that are told of each fact, which the test agrees with
  pub bits_tell : (n : ℕ) (q : Assignment) → length q ≤ n → ((f : Fact) → Memᴰ f q → told f ≡ test f)
      → bits_hold s (binary (take n (map told q))) q ≡ not (some_of (λ f. test f && not (holds s f)) q)
  unfolding bits_hold binary some_of
  bits_tell n [] few same = refl
  bits_tell zero (f ∷ q) few same = absurd (omega arith)
  bits_tell (suc n) (f ∷ q) few same =
      rw (
        same f (Memᴰ.head refl),
        lowest_digit (binary (take n (map told q))) (test f),
        other_digits (binary (take n (map told q))) (test f),
        bits_tell n q (omega arith) (λ g m. same g (Memᴰ.tail m)),
      )
      (bit_tested (test f) (holds s f) (some_of (λ g. test g && not (holds s g)) q))

-- one fact's bit, which it has not where a test passes it
idle_tested : (b held later : Bool) → ((eqb (digit (not b)) 1 || held) && not later) ≡ not (b && not held || later)
idle_tested true true later = refl
idle_tested true false later = refl
idle_tested false held later = refl

-- and a fact that has none
none_tested : (b held rest later : Bool) → (rest ≡ true → later ≡ false) → (held && rest) ≡ true → (b && not held || later) ≡ false
none_tested true true rest later more h = more h
none_tested false true rest later more h = more h
none_tested b false rest later more h = absurd (true≢false (sym h))

module _ (s : State) (told test : Fact → Bool) where
  -- the bits are those of the facts that fail the test
  abbrev Fails : Assignment → Type 0
  Fails q = (f : Fact) → Memᴰ f q → told f ≡ not (test f)

  missing : Assignment → Bool
  missing q = some_of (λ f. test f && not (holds s f)) q

  -- where there is no bit, each fact has to hold
  none_missing : (q : Assignment) → idle_or_held s 0 q ≡ true → missing q ≡ false
  unfolding idle_or_held some_of missing
  none_missing [] h = refl
  none_missing (f ∷ q) h = none_tested (test f) (holds s f) (idle_or_held s 0 q) (missing q) (none_missing q) h

  pub idle_sound : (n : ℕ) (q : Assignment) → Fails q → idle_or_held s (binary (take n (map told q))) q ≡ true
      → some_of (λ f. test f && not (holds s f)) q ≡ false
  unfolding idle_or_held binary some_of missing
  idle_sound n [] fails h = refl
  idle_sound zero (f ∷ q) fails h = none_missing (f ∷ q) h
  idle_sound (suc n) (f ∷ q) fails h =
      let bits : ℕ = binary (take n (map told q)) in
      let parts : ((eqb (digit (not (test f))) 1 || holds s f) && idle_or_held s bits q) ≡ true =
      rw (fails f (Memᴰ.head refl), lowest_digit bits (not (test f)), other_digits bits (not (test f))) at h in
      let (first, rest) = (and-eq-true_iff (eqb (digit (not (test f))) 1 || holds s f) (idle_or_held s bits q)).0 parts in
      let none : missing q ≡ false = idle_sound n q (λ g m. fails g (Memᴰ.tail m)) rest in
      rw none (one_passed (test f) (holds s f) first)
    where
      one_passed : (b held : Bool) → (eqb (digit (not b)) 1 || held) ≡ true → (b && not held || false) ≡ false
      one_passed true true e = refl
      one_passed true false e = absurd (true≢false (sym e))
      one_passed false held e = refl

  -- where each fact has a bit, what is left of all bits asks for the facts that pass
  pub others_tell : (n : ℕ) (q : Assignment) → length q ≤ n → Fails q
      → bits_hold s (2 ^ n - 1 - binary (take n (map told q))) q ≡ not (some_of (λ f. test f && not (holds s f)) q)
  unfolding bits_hold binary some_of
  others_tell n [] few fails = refl
  others_tell zero (f ∷ q) few fails = absurd (omega arith)
  others_tell (suc n) (f ∷ q) few fails =
      let bits : ℕ = binary (take n (map told q)) in
      let below : bits < 2 ^ n = binary_below n (map told q) in
      let low : (2 ^ suc n - 1 - (2 * bits + digit (not (test f)))) % 2 ≡ digit (test f) = lowest_left bits (test f) below in
      let others : (2 ^ suc n - 1 - (2 * bits + digit (not (test f)))) / 2 ≡ 2 ^ n - 1 - bits = others_left bits (test f) below in
      rw (fails f (Memᴰ.head refl), low, others, others_tell n q (omega arith) (λ g m. fails g (Memᴰ.tail m)))
      (bit_tested (test f) (holds s f) (some_of (λ g. test g && not (holds s g)) q))
    where
      lowest_left : (x : ℕ) (b : Bool) → x < 2 ^ n → (2 ^ suc n - 1 - (2 * x + digit (not b))) % 2 ≡ digit b
      lowest_left x true h = omega (arith, pow-suc 2 n)
      lowest_left x false h = omega (arith, pow-suc 2 n)

      others_left : (x : ℕ) (b : Bool) → x < 2 ^ n → (2 ^ suc n - 1 - (2 * x + digit (not b))) / 2 ≡ 2 ^ n - 1 - x
      others_left x true h = omega (arith, pow-suc 2 n)
      others_left x false h = omega (arith, pow-suc 2 n)
