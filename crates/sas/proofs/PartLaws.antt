-- The first values of a state do by themselves what they do in the state, for facts of their own variables: a fact holds in them where it holds in the state,
-- and to apply an action is the same before and after the others are left out. By list induction, one `set` and one fact at a time. Assumes nothing.
use Prim.Native.Nat.{ℕ, zero, suc, ◌≤◌, ◌<◌}
use native.Mathlib.Omega.{arith}
use mathlib.Core.Path.{◌≡◌, refl, sym, ◌∙◌, ap}
use mathlib.Core.Bool.{Bool, true, false}
use mathlib.Core.List.{[], ◌∷◌, Memᴰ}
use lib.ListN.{length, set, take}
use lib.Seq.{get_or-take, length-take-le}
use borrow.Author.Tests.{lt-ltb}
use Rattle.sas.specs.Task.{Fact, Assignment, State, Effect, Action}
use Rattle.sas.specs.Plan.{holds, satisfies, applicable, acting, assign, apply, needed, needs}
use Rattle.sas.proofs.FactLaws.{satisfies_nothing, satisfies_more, satisfies_failing}
use Rattle.sas.proofs.EffectLaws.{acting_alike}
use Rattle.sas.proofs.ActionLaws.{applicable_needed}

take_set : (n : ℕ) (s : State) (v x : ℕ) → take n (set s v x) ≡ set (take n s) v x
take_set zero s v x = refl
take_set (suc n) [] v x = refl
take_set (suc n) (y ∷ s) zero x = refl
take_set (suc n) (y ∷ s) (suc v) x = ap (λ t. y ∷ t) (take_set n s v x)

part_assign : (n : ℕ) (s : State) (e : Assignment) → take n (assign s e) ≡ assign (take n s) e
unfolding assign
part_assign n s [] = refl
part_assign n s (f ∷ e) = part_assign n (set s f.variable f.value) e ∙ ap (λ t. assign t e) (take_set n s f.variable f.value)

module _ (n : ℕ) (s : State) (room : n ≤ length s) where
  part_holds : (f : Fact) → f.variable < n → holds (take n s) f ≡ holds s f
  unfolding holds
  part_holds f h =
      let there : f.variable < length (take n s) = rw (length-take-le n s room) h in
      rw (lt-ltb _ _ there, lt-ltb f.variable (length s) (omega arith), get_or-take n s f.variable 0 h)

  pub part_satisfies : (q : Assignment) → ((f : Fact) → Memᴰ f q → f.variable < n) → satisfies (take n s) q ≡ satisfies s q
  part_satisfies [] own = satisfies_nothing (take n s) ∙ sym (satisfies_nothing s)
  part_satisfies (f ∷ q) own = by_case (part_satisfies q (λ g m. own g (Memᴰ.tail m))) (holds s f) refl
    where
      same : holds (take n s) f ≡ holds s f
      same = part_holds f (own f (Memᴰ.head refl))

      by_case : satisfies (take n s) q ≡ satisfies s q → (b : Bool) → holds s f ≡ b → satisfies (take n s) (f ∷ q) ≡ satisfies s (f ∷ q)
      by_case more true e = satisfies_more (take n s) f q (same ∙ e) ∙ more ∙ sym (satisfies_more s f q e)
      by_case more false e = satisfies_failing (take n s) f q (same ∙ e) ∙ sym (satisfies_failing s f q e)

  pub part_applicable : (a : Action) → ((f : Fact) → needs a f → f.variable < n) → applicable (take n s) a ≡ applicable s a
  part_applicable a own = applicable_needed (take n s) a ∙ part_satisfies (needed a) own ∙ sym (applicable_needed s a)

  -- an action does to them what it does to the state, where its conditions are of their variables
  pub part_apply : (a : Action) → ((e : Effect) → Memᴰ e a.effects → (f : Fact) → Memᴰ f e.condition → f.variable < n)
      → take n (apply s a) ≡ apply (take n s) a
  unfolding apply
  part_apply a own =
      part_assign n s (acting s a.effects)
      ∙ ap (assign (take n s)) (sym (acting_alike (take n s) s a.effects (λ e m. part_satisfies e.condition (own e m))))
