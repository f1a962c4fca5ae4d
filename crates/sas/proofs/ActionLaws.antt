-- What theorems about plans use of an action, and all that they use: the facts that it may write and those that it needs, and what holds between a
-- state and its result. For another kind of action these laws are proved again, with those of domains, which look into its effect too. That the facts of a
-- satisfied goal hold is `satisfied_holds`. By the laws of `assign`. Assumes nothing.
use mathlib.Core.Path.{◌≡◌, refl, sym, ◌∙◌, ap}
use Prim.Native.Nat.{ℕ, ◌<◌}
use mathlib.Core.Logic.{◌⊎◌, inl, inr, ⊎_elim, ◌≢◌}
use mathlib.Core.Bool.{Bool, true, false, true≢false}
use mathlib.Core.Option.{none, some, some-ne-none}
use mathlib.Core.List.Memᴰ
use mathlib.Core.List.{List, Memᴰ}
use lib.ListN.{length, get_or}
use Rattle.sas.specs.Task.{Fact, State, Action, idle}
use Rattle.sas.specs.Plan.{holds, satisfies, applicable, assign, acting, apply, result, written, needed, may_write, always_writes, needs}
use Rattle.sas.specs.Between.WellFormed.{Known, ActionFormed, Plain}
use Rattle.sas.proofs.FactLaws.{holds_variable, satisfied_holds}
use Rattle.sas.proofs.WellFormedLaws.{rising_known, plain_agrees}
use Rattle.sas.proofs.EffectLaws.{one_value, acting_written, acting_agrees, always_acts, plain_acting}
use Rattle.sas.proofs.AssignLaws.{assign_length, assign_other, assigned_holds, assigned_or_held}

pub result_applied : (s : State) (a : Action) → applicable s a ≡ true → result s a ≡ some (apply s a)
unfolding result
result_applied s a h = rw (h, result)

pub result_stuck : (s : State) (a : Action) → applicable s a ≡ false → result s a ≡ none
unfolding result
result_stuck s a h = rw (h, result)

-- an action that has a result is applicable
pub result_applicable : {t : State} (s : State) (a : Action) → result s a ≡ some t → applicable s a ≡ true
result_applicable {t} s a h = by_case (applicable s a) refl
  where
    by_case : (b : Bool) → applicable s a ≡ b → applicable s a ≡ true
    by_case true e = e
    by_case false e = absurd (some-ne-none t (sym h ∙ result_stuck s a e))

-- an action that has none is not
pub no_result_inapplicable : (s : State) (a : Action) → result s a ≡ none → applicable s a ≡ false
no_result_inapplicable s a h = by_case (applicable s a) refl
  where
    by_case : (b : Bool) → applicable s a ≡ b → applicable s a ≡ false
    by_case true e = absurd (some-ne-none _ (sym (result_applied s a e) ∙ h))
    by_case false e = e

-- the result is what the action's acting effects make of the state
pub result_assigned : {t : State} (s : State) (a : Action) → result s a ≡ some t → t ≡ apply s a
result_assigned s a h = cc (result_applied s a (result_applicable s a h))

-- an action is applicable just where what it needs is satisfied
pub applicable_needed : (s : State) (a : Action) → applicable s a ≡ satisfies s (needed a)
unfolding applicable needed
applicable_needed s a = refl

-- what an action needs holds where it is applicable
pub needed_holds : {f : Fact} (s : State) (a : Action) → applicable s a ≡ true → needs a f → holds s f ≡ true
unfolding applicable needed
needed_holds s a h m = satisfied_holds s h m

pub idle_writes_nothing : {f : Fact} → may_write idle f → ⊥
unfolding written
idle_writes_nothing w = Memᴰ.not-nil w

pub idle_needs_nothing : {f : Fact} → needs idle f → ⊥
unfolding needed
idle_needs_nothing n = Memᴰ.not-nil n

-- what an action does keeps the number of variables
pub apply_length : (s : State) (a : Action) → length (apply s a) ≡ length s
unfolding apply
apply_length s a = assign_length s (acting s a.effects)

-- and every variable without an acting fact, also one that it might write
pub apply_unacting : (s : State) (a : Action) (v : ℕ) → ((f : Fact) → Memᴰ f (acting s a.effects) → f.variable ≢ v) → get_or (apply s a) v 0 ≡ get_or s v 0
unfolding apply
apply_unacting s a v h = assign_other s (acting s a.effects) v h

-- and so every variable that it may not write
pub apply_other : (s : State) (a : Action) (v : ℕ) → ((f : Fact) → may_write a f → f.variable ≢ v) → get_or (apply s a) v 0 ≡ get_or s v 0
apply_other s a v h = apply_unacting s a v (λ f m. h f (acting_written s a m))

-- a plain action assigns all that it may write
pub plain_apply : {domains : List ℕ} (s : State) (a : Action) → Plain domains a → apply s a ≡ assign s (written a)
unfolding apply
plain_apply s a plain = ap (assign s) (plain_acting a plain s)

module _ {f : Fact} (a : Action) (s : State) where
  -- all that a plain action may write holds after it
  pub apply_holds : {domains : List ℕ} → Plain domains a → may_write a f → f.variable < length s → holds (apply s a) f ≡ true
  apply_holds plain w below = rw (plain_apply s a plain) (assigned_holds s (plain_agrees plain) w below)

  -- and each acting fact of an action over the domains that can be applied
  pub acting_holds : {domains : List ℕ} → ActionFormed domains a → applicable s a ≡ true → Memᴰ f (acting s a.effects) → f.variable < length s
      → holds (apply s a) f ≡ true
  unfolding apply
  acting_holds formed able m below = assigned_holds s (acting_agrees s a formed.consistent able) m below

  -- where such an action always writes another value of a fact's variable, the fact fails after it
  pub other_fails : {domains : List ℕ} (g : Fact) → ActionFormed domains a → applicable s a ≡ true → always_writes a f → f.variable ≡ g.variable
      → f.value ≢ g.value → holds (apply s a) g ≡ false
  other_fails g formed able w same other = by_case (holds (apply s a) g) refl
    where
      t : State
      t = apply s a

      by_case : (b : Bool) → holds t g ≡ b → b ≡ false
      by_case false e = refl
      by_case true e =
          let below : f.variable < length s = rw (same, ← apply_length s a) (holds_variable t g e) in
          absurd (other (one_value t f g same (acting_holds formed able (always_acts s a w) below) e))

-- what an action over the domains needs is known; that what it may write is so is its `known`
pub needed_known : {domains : List ℕ} {f : Fact} (a : Action) → ActionFormed domains a → needs a f → Known domains f
unfolding needed
needed_known a formed n = rising_known formed.precondition n

module _ {t : State} (s : State) (a : Action) (applied : result s a ≡ some t) where
  -- what holds after an action acted, or held before
  pub acting_or_held : (f : Fact) → holds t f ≡ true → Memᴰ f (acting s a.effects) ⊎ (holds s f ≡ true)
  unfolding apply
  acting_or_held f h = assigned_or_held s (acting s a.effects) f (rw (result_assigned s a applied) at h)

  pub written_or_held : (f : Fact) → holds t f ≡ true → may_write a f ⊎ (holds s f ≡ true)
  written_or_held f h = ⊎_elim (λ acts. inl (acting_written s a acts)) inr (acting_or_held f h)

  -- a false fact stays false under an action that may not write it
  pub stays_false : (f : Fact) → (may_write a f → ⊥) → holds s f ≡ false → holds t f ≡ false
  stays_false f unwritten h = by_case (holds t f) refl
    where
      by_case : (b : Bool) → holds t f ≡ b → holds t f ≡ false
      by_case true e = absurd (⊎_elim unwritten (λ held. true≢false (sym held ∙ h)) (written_or_held f e))
      by_case false e = e
