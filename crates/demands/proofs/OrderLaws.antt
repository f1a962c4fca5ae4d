-- Two tallies compare by price, then by steps: by the four tests of the comparison. Assumes nothing.
use Prim.Native.Nat.{ℕ}
use native.Mathlib.Omega.{arith}
use mathlib.Core.Path.{◌≡◌, refl, ap}
use mathlib.Core.Logic.{◌⊎◌, inl, inr}
use mathlib.Core.Bool.{Bool, true, false, cond}
use lib.Dec.{ltb}
use borrow.Author.Tests.{ltb-true, ltb-false}
use Rattle.tally.specs.declared.Tally.{Tally}
use Rattle.std.specs.declared.cmp.Ordering.{Ordering}
use Rattle.std.specs.declared.cmp.Ordering.TheVariants.{Less, Equal, Greater}
use Rattle.tally.specs.Tally.{comparison}
use Rattle.tally.proofs.TallyLaws.{same_tally}
use Rattle.demands.specs.Two.{TallyLower, ComparedTruly}

-- which of three orders is told, by what holds of the two tallies
data Ordered (t u : Tally) : Ordering → Type 0 where
  as_less : TallyLower t u → Ordered t u Less
  as_equal : t ≡ u → Ordered t u Equal
  as_greater : TallyLower u t → Ordered t u Greater

-- the orders apart
abbrev rank : Ordering → ℕ
rank Less = 0
rank Equal = 1
rank Greater = 2

ordered : (t u : Tally) → Ordered t u (comparison t u)
unfolding comparison
ordered t u = by_case (ltb t.cost u.cost) refl (ltb u.cost t.cost) refl (ltb t.steps u.steps) refl (ltb u.steps t.steps) refl
  where
    by_case : (a : Bool) → ltb t.cost u.cost ≡ a → (b : Bool) → ltb u.cost t.cost ≡ b → (c : Bool) → ltb t.steps u.steps ≡ c
        → (d : Bool) → ltb u.steps t.steps ≡ d → Ordered t u (cond a Less (cond b Greater (cond c Less (cond d Greater Equal))))
    by_case true e b f c g d h = as_less (inl (ltb-true t.cost u.cost e))
    by_case false e true f c g d h = as_greater (inl (ltb-true u.cost t.cost f))
    by_case false e false f true g d h = as_less (inr (omega (arith, ltb-false t.cost u.cost e, ltb-false u.cost t.cost f), ltb-true t.steps u.steps g))
    by_case false e false f false g true h = as_greater (inr (omega (arith, ltb-false t.cost u.cost e, ltb-false u.cost t.cost f), ltb-true u.steps t.steps h))
    by_case false e false f false g false h =
        as_equal (same_tally t u (omega (arith, ltb-false t.cost u.cost e, ltb-false u.cost t.cost f)) (omega (arith, ltb-false t.steps u.steps g, ltb-false u.steps t.steps h)))

pub compared_truly : (t u : Tally) → ComparedTruly t u (comparison t u)
compared_truly t u = by_case (comparison t u) (ordered t u)
  where
    once : TallyLower t u → TallyLower u t → ⊥
    once (inl a) (inl b) = omega arith
    once (inl a) (inr b) = omega arith
    once (inr a) (inl b) = omega arith
    once (inr a) (inr b) = omega arith

    never : t ≡ u → TallyLower t u ⊎ TallyLower u t → ⊥
    never same (inl (inl a)) = omega (arith, ap (λ k. k.cost) same)
    never same (inl (inr a)) = omega (arith, ap (λ k. k.steps) same)
    never same (inr (inl a)) = omega (arith, ap (λ k. k.cost) same)
    never same (inr (inr a)) = omega (arith, ap (λ k. k.steps) same)

    by_case : (r : Ordering) → Ordered t u r → ComparedTruly t u r
    by_case Less (as_less h) =
        record { less = (λ e. h, λ e. refl); equal = (λ e. absurd (omega (arith, ap rank e)), λ same. absurd (never same (inl h))); greater = (λ e. absurd (omega (arith, ap rank e)), λ k. absurd (once h k)) }
    by_case Equal (as_equal h) =
        record { less = (λ e. absurd (omega (arith, ap rank e)), λ k. absurd (never h (inl k))); equal = (λ e. h, λ same. refl); greater = (λ e. absurd (omega (arith, ap rank e)), λ k. absurd (never h (inr k))) }
    by_case Greater (as_greater h) =
        record { less = (λ e. absurd (omega (arith, ap rank e)), λ k. absurd (once k h)); equal = (λ e. absurd (omega (arith, ap rank e)), λ same. absurd (never same (inr h))); greater = (λ e. h, λ e. refl) }
