-- The laws of the search for the first place, by the cases of a loop from i to end: nothing is left, the place is here, it is further on;
-- and what a search that found nothing says of every number it passed. Assumes nothing.
use Rattle.std.specs.Prelude.{None, Some}
use Prim.Native.Nat.{ℕ, zero, suc, ◌+◌, ◌-◌, ◌≤◌, ◌<◌}
use mathlib.Core.Path.{◌≡◌, refl, sym, ◌∙◌, ap}
use mathlib.Core.Bool.{Bool, true, false}
use lib.Dec.{eqb}
use borrow.Author.Tests.{eqb-true, eqb-false}
use native.Mathlib.Omega.{arith}
use Rattle.refusal.specs.Place.{Place}
use Rattle.refusal.specs.Place.{when, or_else, first_of_next, first_of, first}

-- one number fewer is left after the first
pub one_fewer : (i end : ℕ) → i < end → end - i ≡ suc (end - (i + 1))
one_fewer i end h = omega arith

-- at the end none is left
pub none_left : (i end : ℕ) → end ≤ i → end - i ≡ zero
none_left i end h = omega arith

pub first_of_over : (f : ℕ → Place) (i end : ℕ) → end ≤ i → first_of f i end ≡ None
unfolding first_of first_of_next
first_of_over f i end h = rw (none_left i end h)

next_here : (f : ℕ → Place) (i n k : ℕ) → f i ≡ Some k → first_of_next f i (suc n) ≡ Some k
unfolding first_of_next
next_here f i n k e = rw (e, first_of_next)

next_more : (f : ℕ → Place) (i n : ℕ) → f i ≡ None → first_of_next f i (suc n) ≡ first_of_next f (i + 1) n
unfolding first_of_next
next_more f i n e = rw (e, first_of_next)

pub first_of_here : (f : ℕ → Place) (i end k : ℕ) → i < end → f i ≡ Some k → first_of f i end ≡ Some k
unfolding first_of
first_of_here f i end k h e = rw (one_fewer i end h) (next_here f i _ k e)

pub first_of_more : (f : ℕ → Place) (i end : ℕ) → i < end → f i ≡ None → first_of f i end ≡ first_of f (i + 1) end
unfolding first_of
first_of_more f i end h e = rw (one_fewer i end h) (next_more f i _ e)

pub first_over : (t : ℕ → Bool) (i end : ℕ) → end ≤ i → first t i end ≡ None
unfolding first
first_over t i end h = first_of_over _ i end h

pub first_here : (t : ℕ → Bool) (i end : ℕ) → i < end → t i ≡ true → first t i end ≡ Some i
unfolding first
first_here t i end h e = first_of_here _ i end i h (rw e)

pub first_more : (t : ℕ → Bool) (i end : ℕ) → i < end → t i ≡ false → first t i end ≡ first t (i + 1) end
unfolding first
first_more t i end h e = first_of_more _ i end h (rw e)

at_somewhere : (p : Place) (k : ℕ) → p ≡ Some k → p ≡ None → ⊥
at_somewhere p k here nowhere = let never : ◌≡◌ {A = ℕ} 0 1 = cc in omega arith

-- where neither of two places is found, each is nowhere
pub or_else_nowhere : (p q : Place) → or_else p q ≡ None → (p ≡ None) × (q ≡ None)
or_else_nowhere None q h = (refl, h)
or_else_nowhere (Some k) q h = absurd (at_somewhere (Some k) k refl h)

pub when_nowhere : (b : Bool) (k : ℕ) → when b k ≡ None → b ≡ false
when_nowhere true k h = absurd (at_somewhere (Some k) k refl h)
when_nowhere false k h = refl

-- with at most n numbers left to search
nowhere_among : (f : ℕ → Place) (n i end : ℕ) → end ≤ i + n → first_of f i end ≡ None → (k : ℕ) → i ≤ k → k < end → f k ≡ None
nowhere_among f zero i end few h k low high = absurd (omega arith)
nowhere_among f (suc n) i end few h k low high = by_case (nowhere_among f n (i + 1) end (omega arith)) (f i) refl (eqb i k) refl
  where
    Next : Type 0
    Next = first_of f (i + 1) end ≡ None → (j : ℕ) → i + 1 ≤ j → j < end → f j ≡ None

    by_case : Next → (p : Place) → f i ≡ p → (b : Bool) → eqb i k ≡ b → f k ≡ None
    by_case next (Some j) here b e = absurd (at_somewhere (first_of f i end) j (first_of_here f i end j (omega arith) here) h)
    by_case next None here true e = rw (← eqb-true i k e) here
    by_case next None here false e = next (sym (first_of_more f i end (omega arith) here) ∙ h) k (omega (arith, eqb-false i k e)) high

-- where a search finds no place, none is found at any number from i up to, not including, end
pub first_of_nowhere : (f : ℕ → Place) (i end : ℕ) → first_of f i end ≡ None → (k : ℕ) → i ≤ k → k < end → f k ≡ None
first_of_nowhere f i end = nowhere_among f end i end (omega arith)

-- and a test is false there
pub first_nowhere : (t : ℕ → Bool) (i end : ℕ) → first t i end ≡ None → (k : ℕ) → i ≤ k → k < end → t k ≡ false
unfolding first
first_nowhere t i end h k low high = when_nowhere (t k) k (first_of_nowhere _ i end h k low high)

-- where f finds no place at any of the n numbers from i on, the search finds none
none_among : (f : ℕ → Place) (i n : ℕ) → ((k : ℕ) → i ≤ k → k < i + n → f k ≡ None) → first_of_next f i n ≡ None
unfolding first_of_next
none_among f i zero none = refl
none_among f i (suc n) none = rw (none i (omega arith) (omega arith), first_of_next) (none_among f (i + 1) n (λ k low high. none k (omega arith) (omega arith)))

pub first_of_none : (f : ℕ → Place) (end : ℕ) → ((k : ℕ) → k < end → f k ≡ None) → first_of f 0 end ≡ None
unfolding first_of
first_of_none f end none = none_among f 0 (end - 0) (λ k low high. none k (omega arith))

-- nor is there one where a test is false at every number
pub no_first : (t : ℕ → Bool) (end : ℕ) → ((k : ℕ) → k < end → t k ≡ false) → first t 0 end ≡ None
unfolding first
no_first t end none = first_of_none _ end (λ k h. ap (λ b. when b k) (none k h))
