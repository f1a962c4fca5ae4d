-- A round of greedy elimination takes what document 01 says: of the successes one that leaves the lowest list, and the earliest of those. By one walk along
-- the positions. Assumes nothing.
use Prim.Native.Nat.{ℕ, zero, suc, ◌<◌}
use native.Mathlib.Omega.{arith}
use mathlib.Core.Path.{◌≡◌, refl, sym, ◌∙◌, subst}
use mathlib.Core.Bool.{Bool, true, false, cond}
use mathlib.Core.Option.{Option, none, some, some-ne-none, some-injective}
use mathlib.Core.List.{List}
use lib.Dec.{ltb}
use borrow.Author.Tests.{ltb-true, ltb-false}
use Rattle.sas.specs.Task.{Assignment, State, Action}
use Rattle.reduction.specs.Reduction.{Reduction, kept}
use Rattle.reduction.specs.Between.Order.{lower}
use Rattle.reduction.specs.Between.Elimination.{trial, better, best}
use Rattle.reduction.proofs.LowerLaws.{lower_through, lower_once, lower_self}

-- of the trials at the first n positions, the one at index i leaves x, none leaves a lower list, and none before i one as low
pub record Chosen (s : State) (goal : Assignment) (p : List Action) (m : Reduction) (n : ℕ) (x : Reduction) (i : ℕ) : Type 0 where
  pub within : i < n
  pub success : trial s goal p m i ≡ some x
  pub lowest : (j : ℕ) → j < n → (y : Reduction) → trial s goal p m j ≡ some y → lower (kept y p) (kept x p) ≡ false
  pub earliest : (j : ℕ) → j < i → (y : Reduction) → trial s goal p m j ≡ some y → lower (kept x p) (kept y p) ≡ true

up_to : (P : ℕ → Type 0) (n : ℕ) → ((j : ℕ) → j < n → P j) → P n → (j : ℕ) → j < suc n → P j
up_to P n before last j h = by_case (ltb j n) refl
  where
    by_case : (b : Bool) → ltb j n ≡ b → P j
    by_case true e = before j (ltb-true j n e)
    by_case false e = let same : j ≡ n = omega (arith, ltb-false j n e) in rw same last

module _ (s : State) (goal : Assignment) (p : List Action) (m : Reduction) where
  -- the trial at j leaves no list lower than x does
  abbrev NoLower : Reduction → ℕ → Type 0
  NoLower x j = (y : Reduction) → trial s goal p m j ≡ some y → lower (kept y p) (kept x p) ≡ false

  -- a trial that fails does not succeed
  failed : {y : Reduction} {A : Type 0} (j : ℕ) → trial s goal p m j ≡ none → trial s goal p m j ≡ some y → A
  failed {y} j e h = absurd (some-ne-none y (sym h ∙ e))

  -- the trial at n leaves nothing but z
  only : {z : Reduction} (n : ℕ) → trial s goal p m n ≡ some z → NoLower z n
  only {z} n e y h = rw (← some-injective z y (sym e ∙ h)) (lower_self (kept z p))

  -- the first success is chosen
  first_chosen : {z : Reduction} (n : ℕ) → ((j : ℕ) → j < n → trial s goal p m j ≡ none) → trial s goal p m n ≡ some z → Chosen s goal p m (suc n) z n
  first_chosen {z} n fail e =
      record {
        within = omega arith;
        success = e;
        lowest = up_to (NoLower z) n (λ j h y k. failed j (fail j h) k) (only n e);
        earliest = λ j h y k. failed j (fail j h) k;
      }

  -- a lower success is chosen from there on
  lower_chosen : {x z : Reduction} {i : ℕ} (n : ℕ) → Chosen s goal p m n x i → trial s goal p m n ≡ some z → lower (kept z p) (kept x p) ≡ true
      → Chosen s goal p m (suc n) z n
  lower_chosen {x} {z} n c e less =
      record { within = omega arith; success = e; lowest = up_to (NoLower z) n (λ j h y k. lower_once (kept z p) (kept y p) (below j h y k)) (only n e); earliest = below }
    where
      below : (j : ℕ) → j < n → (y : Reduction) → trial s goal p m j ≡ some y → lower (kept z p) (kept y p) ≡ true
      below j h y k = lower_through (kept z p) (kept x p) (kept y p) less (c.lowest j h y k)

  -- and what was chosen stays so where the next trial leaves none
  still_chosen : {x : Reduction} {i : ℕ} (n : ℕ) → Chosen s goal p m n x i → NoLower x n → Chosen s goal p m (suc n) x i
  still_chosen {x} n c last =
      record { within = omega (arith, c.within); success = c.success; lowest = up_to (NoLower x) n c.lowest last; earliest = c.earliest }

  -- what is taken of the trials at the first n positions: nothing where none succeeds
  abbrev Choice : ℕ → Option Reduction → Type 0
  Choice n none = (j : ℕ) → j < n → trial s goal p m j ≡ none
  Choice n (some x) = (i : ℕ) × Chosen s goal p m n x i

  next_choice : (n : ℕ) (a b : Option Reduction) → trial s goal p m n ≡ b → Choice n a → Choice (suc n) (better p a b)
  unfolding better
  next_choice n none none e fail = up_to (λ j. trial s goal p m j ≡ none) n fail e
  next_choice n none (some z) e fail = (n, first_chosen n fail e)
  next_choice n (some x) none e (i, c) = (i, still_chosen n c (λ y h. failed n e h))
  next_choice n (some x) (some z) e (i, c) = by_case (lower (kept z p) (kept x p)) refl
    where
      by_case : (b : Bool) → lower (kept z p) (kept x p) ≡ b → Choice (suc n) (cond b (some z) (some x))
      by_case true less = (n, lower_chosen n c e less)
      by_case false no_less = (i, still_chosen n c (λ y h. rw (← some-injective z y (sym e ∙ h)) no_less))

  best_choice : (n : ℕ) → Choice n (best s goal p m n)
  unfolding best
  best_choice zero = λ j h. absurd (omega arith)
  best_choice (suc n) = next_choice n (best s goal p m n) (trial s goal p m n) refl (best_choice n)

  pub best_none : (n : ℕ) → best s goal p m n ≡ none → (j : ℕ) → j < n → trial s goal p m j ≡ none
  best_none n h = subst (Choice n) h (best_choice n)

  pub best_chosen : {x : Reduction} (n : ℕ) → best s goal p m n ≡ some x → (i : ℕ) × Chosen s goal p m n x i
  best_chosen n h = subst (Choice n) h (best_choice n)
