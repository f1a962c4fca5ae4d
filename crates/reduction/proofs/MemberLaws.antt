-- When an assignment has a fact: just where it is a member. By the laws of `Some-of`. Assumes nothing.
use mathlib.Core.Path.{◌≡◌, refl, sym, ◌∙◌}
use mathlib.Core.Bool.{Bool, true, false, true≢false, and-eq-true_iff}
use mathlib.Core.List.Memᴰ
use mathlib.Core.List.{Memᴰ}
use lib.Dec.{eqb}
use borrow.Author.Tests.{eqb-true, eq-eqb}
use Rattle.sas.specs.Task.{Fact, Assignment}
use Rattle.reduction.specs.Between.Wanted.{same_fact, has}
use Rattle.sas.proofs.SomeLaws.{found, found_passes}

pub same_fact_true : (f g : Fact) → same_fact f g ≡ true → f ≡ g
unfolding same_fact
same_fact_true f g h =
    let (variable, value) = (and-eq-true_iff (eqb f.variable g.variable) (eqb f.value g.value)).0 h in
    λ i. record { variable = eqb-true f.variable g.variable variable i; value = eqb-true f.value g.value value i }

pub same_fact_refl : (f : Fact) → same_fact f f ≡ true
unfolding same_fact
same_fact_refl f = rw (eq-eqb f.variable f.variable refl, eq-eqb f.value f.value refl)

pub has_member : (q : Assignment) (f : Fact) → has q f ≡ true → Memᴰ f q
unfolding has
has_member q f h = let (g, m, same) = found_passes (same_fact f) q h in Memᴰ.cast (same_fact_true f g same) m

pub member_has : {f : Fact} {q : Assignment} → Memᴰ f q → has q f ≡ true
unfolding has
member_has {f} m = found (same_fact f) m (same_fact_refl f)

pub has_no_member : (q : Assignment) (f : Fact) → has q f ≡ false → Memᴰ f q → ⊥
has_no_member q f h m = true≢false (sym (member_has m) ∙ h)

pub no_member_has : (q : Assignment) (f : Fact) → (Memᴰ f q → ⊥) → has q f ≡ false
no_member_has q f h = by_case (has q f) refl
  where
    by_case : (b : Bool) → has q f ≡ b → has q f ≡ false
    by_case true e = absurd (h (has_member q f e))
    by_case false e = e
