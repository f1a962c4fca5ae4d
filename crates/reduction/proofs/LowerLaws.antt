-- `lower` orders lists by cost, then length: what it says in numbers, and that what is lower than a list is lower than every list that is not lower than
-- that one. By the cases of cost and length. Assumes nothing.
use Prim.Native.Nat.{◌≤◌, ◌<◌}
use native.Mathlib.Omega.{arith}
use mathlib.Core.Path.{◌≡◌, refl, sym}
use mathlib.Core.Logic.{◌⊎◌, inl, inr, ⊎_elim}
use mathlib.Core.Bool.{Bool, true, false, ◌&&◌, and-eq-true_iff, or-true}
use mathlib.Core.List.{List}
use lib.ListN.{length}
use lib.Dec.{ltb, eqb}
use borrow.Author.Tests.{ltb-true, ltb-false, lt-ltb, eqb-true, eqb-false, eq-eqb}
use Rattle.sas.specs.Task.{Action}
use Rattle.sas.specs.Plan.{cost}
use Rattle.reduction.specs.Between.Order.{lower}
use Rattle.sas.proofs.SomeLaws.{or_cases, or_neither}

abbrev pub Lower : List Action → List Action → Type 0
Lower p q = (cost p < cost q) ⊎ ((cost p ≡ cost q) × (length p < length q))

pub lower_true : (p q : List Action) → lower p q ≡ true → Lower p q
unfolding lower
lower_true p q h = ⊎_elim (λ less. inl (ltb-true (cost p) (cost q) less)) (λ x. inr (as_dear x)) (or_cases (ltb (cost p) (cost q)) _ h)
  where
    as_dear : (eqb (cost p) (cost q) && ltb (length p) (length q)) ≡ true → (cost p ≡ cost q) × (length p < length q)
    as_dear x =
        let (same, less) = (and-eq-true_iff (eqb (cost p) (cost q)) (ltb (length p) (length q))).0 x in
        (eqb-true (cost p) (cost q) same, ltb-true (length p) (length q) less)

pub true_lower : (p q : List Action) → Lower p q → lower p q ≡ true
unfolding lower
true_lower p q (inl less) = rw (lt-ltb (cost p) (cost q) less)
true_lower p q (inr (same, less)) = rw (eq-eqb (cost p) (cost q) same, lt-ltb (length p) (length q) less, or-true)

-- a list that is not lower than another is dearer, or as dear and no shorter
pub lower_false : (p q : List Action) → lower p q ≡ false → (cost q < cost p) ⊎ ((cost q ≡ cost p) × (length q ≤ length p))
unfolding lower
lower_false p q h = by_case (eqb (cost p) (cost q)) refl
  where
    neither : (ltb (cost p) (cost q) ≡ false) × ((eqb (cost p) (cost q) && ltb (length p) (length q)) ≡ false)
    neither = or_neither (ltb (cost p) (cost q)) (eqb (cost p) (cost q) && ltb (length p) (length q)) h

    by_case : (b : Bool) → eqb (cost p) (cost q) ≡ b → (cost q < cost p) ⊎ ((cost q ≡ cost p) × (length q ≤ length p))
    by_case true e = inr (sym (eqb-true (cost p) (cost q) e), ltb-false (length p) (length q) (rw e at neither.1))
    by_case false e = inl (omega (arith, ltb-false (cost p) (cost q) neither.0, eqb-false (cost p) (cost q) e))

-- what is lower than a list is lower than every list that is not lower than that one
pub lower_through : (z x y : List Action) → lower z x ≡ true → lower y x ≡ false → lower z y ≡ true
lower_through z x y h k = true_lower z y (by_case (lower_true z x h) (lower_false y x k))
  where
    by_case : Lower z x → (cost x < cost y) ⊎ ((cost x ≡ cost y) × (length x ≤ length y)) → Lower z y
    by_case (inl a) (inl b) = inl (omega arith)
    by_case (inl a) (inr b) = inl (omega arith)
    by_case (inr a) (inl b) = inl (omega arith)
    by_case (inr a) (inr b) = inr (omega arith)

-- of two lists only one is lower than the other
pub lower_once : (p q : List Action) → lower p q ≡ true → lower q p ≡ false
lower_once p q h = by_case (lower q p) refl
  where
    never : Lower p q → Lower q p → ⊥
    never (inl a) (inl b) = omega arith
    never (inl a) (inr b) = omega arith
    never (inr a) (inl b) = omega arith
    never (inr a) (inr b) = omega arith

    by_case : (b : Bool) → lower q p ≡ b → lower q p ≡ false
    by_case true e = absurd (never (lower_true p q h) (lower_true q p e))
    by_case false e = e

-- and none is lower than itself
pub lower_self : (p : List Action) → lower p p ≡ false
lower_self p = by_case (lower p p) refl
  where
    by_case : (b : Bool) → lower p p ≡ b → lower p p ≡ false
    by_case true e = lower_once p p e
    by_case false e = e
