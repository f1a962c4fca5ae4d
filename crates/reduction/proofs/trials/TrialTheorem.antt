-- A trial, and the choice of a round of greedy elimination, are document 01's, word by word. In a valid current list the trial of the definition, which
-- walks from the start, is the one that walks along the rest from the state before its step (`trial_from_before`); and since all trials of a round strike
-- from one list, the lowest list left is the one of which most was struck. Assumes nothing.
use Prim.Native.Nat.{ℕ, ◌+◌, ◌≤◌, ◌<◌}
use native.Mathlib.Omega.{arith}
use mathlib.Core.Path.{◌≡◌, refl, sym, ◌∙◌, ap}
use mathlib.Core.Logic.{◌⊎◌, inl, inr, ◌↔◌}
use mathlib.Core.Bool.{Bool, true, false}
use mathlib.Core.Option.{Option, none, some, some-ne-none, some-injective}
use mathlib.Core.List.{List}
use lib.ListN.{length, set}
use lib.Dec.{ltb}
use borrow.Author.Tests.{ltb-true, ltb-false}
use Rattle.sas.specs.Task.{Assignment, State, Action}
use Rattle.sas.specs.Plan.{cost}
use Rattle.reduction.specs.Reduction.{Reduction, keeps, kept, count, ValidReduction}
use Rattle.reduction.specs.Between.Order.{Contains}
use Rattle.reduction.specs.Between.Elimination.{trial, best}
use Rattle.reduction.specs.Trials.{TrialLeaves, TrialFails, cost_struck, steps_struck, Takes}
use Rattle.reduction.proofs.ReductionLaws.{kept_length, kept_inside}
use Rattle.reduction.proofs.LowerLaws.{Lower, lower_true, lower_false}
use Rattle.reduction.proofs.trials.StruckLaws.{struck_steps, struck_cost, contains_struck}
use Rattle.reduction.proofs.trials.TrialLaws.{Succeeds, trial_succeeds, succeeds_trial, FromBefore, trial_from_before, success_length, walk_contains}
use Rattle.reduction.proofs.trials.GreedyChoice.{Chosen, best_none, best_chosen}

module _ (s : State) (goal : Assignment) (p : List Action) (m : Reduction) (v : ValidReduction s goal p m) where
  from_before : (i : ℕ) → keeps m i → FromBefore s p m i
  from_before i k = trial_from_before s goal p m i v.fits v.valid_left (kept_inside m i k)

  leaves_in_words : (i : ℕ) (x : Reduction) → Succeeds s goal p m i x → TrialLeaves s goal p m i x
  leaves_in_words i x t =
      let from : FromBefore s p m i = from_before i t.tried in
      record { tried = t.tried; before = from.before; reached = from.reached; left = t.left ∙ from.walked; met = rw from.end at t.met }

  leaves_by_definition : (i : ℕ) (x : Reduction) → TrialLeaves s goal p m i x → Succeeds s goal p m i x
  leaves_by_definition i x t =
      let from : FromBefore s p m i = from_before i t.tried in
      let same : from.before ≡ t.before = some-injective _ _ (sym from.reached ∙ t.reached) in
      record { tried = t.tried; left = t.left ∙ rw (← same) (sym from.walked); met = rw (from.end, same) t.met }

  -- the trial of the definition succeeds and leaves x just where document 01's does
  pub trial_in_words : (i : ℕ) (x : Reduction) → trial s goal p m i ≡ some x ↔ TrialLeaves s goal p m i x
  trial_in_words i x = (λ h. leaves_in_words i x (trial_succeeds s goal p m i h), λ t. succeeds_trial (leaves_by_definition i x t))

  -- and fails just where that one does
  pub failure_in_words : (i : ℕ) → trial s goal p m i ≡ none ↔ TrialFails s goal p m i
  failure_in_words i = (λ h x t. some-ne-none x (sym ((trial_in_words i x).1 t) ∙ h), λ fails. by_case fails (trial s goal p m i) refl)
    where
      by_case : TrialFails s goal p m i → (r : Option Reduction) → trial s goal p m i ≡ r → trial s goal p m i ≡ none
      by_case fails none e = e
      by_case fails (some x) e = absurd (fails x ((trial_in_words i x).0 e))

  -- what is left with what is struck is the current list
  abbrev Balances : Reduction → Type 0
  Balances x = (cost_struck p m x + cost (kept x p) ≡ cost (kept m p)) × (steps_struck m x + length (kept x p) ≡ count m)

  balances : (i : ℕ) (x : Reduction) → TrialLeaves s goal p m i x → Balances x
  balances i x t =
      let success : Succeeds s goal p m i x = leaves_by_definition i x t in
      let inside : Contains m x = λ j k. contains_struck m i j (walk_contains s p (set m i false) j (rw success.left at k)) in
      let long : length (kept x p) ≡ count x = kept_length x p (success_length success ∙ v.fits) in
      (struck_cost p m x inside, rw long (struck_steps m x inside))

  chosen_takes : (x : Reduction) (i : ℕ) → Chosen s goal p m (length p) x i → Takes s goal p m x i
  chosen_takes x i c = record { success = success; largest = largest; most = most; earliest = earliest }
    where
      success : TrialLeaves s goal p m i x
      success = (trial_in_words i x).0 c.success

      no_lower : (y : Reduction) (j : ℕ) → TrialLeaves s goal p m j y
          → (cost (kept x p) < cost (kept y p)) ⊎ ((cost (kept x p) ≡ cost (kept y p)) × (length (kept x p) ≤ length (kept y p)))
      no_lower y j t =
          let within : j < length p = omega (arith, kept_inside m j t.tried, v.fits) in
          lower_false (kept y p) (kept x p) (c.lowest j within y ((trial_in_words j y).1 t))

      largest : (y : Reduction) (j : ℕ) → TrialLeaves s goal p m j y → cost_struck p m y ≤ cost_struck p m x
      largest y j t = by_case (no_lower y j t)
        where
          by_case : (cost (kept x p) < cost (kept y p)) ⊎ ((cost (kept x p) ≡ cost (kept y p)) × (length (kept x p) ≤ length (kept y p)))
              → cost_struck p m y ≤ cost_struck p m x
          by_case (inl less) = omega (arith, (balances j y t).0, (balances i x success).0)
          by_case (inr (same, no_longer)) = omega (arith, (balances j y t).0, (balances i x success).0)

      most : (y : Reduction) (j : ℕ) → TrialLeaves s goal p m j y → cost_struck p m y ≡ cost_struck p m x
          → steps_struck m y ≤ steps_struck m x
      most y j t same_cost = by_case (no_lower y j t)
        where
          by_case : (cost (kept x p) < cost (kept y p)) ⊎ ((cost (kept x p) ≡ cost (kept y p)) × (length (kept x p) ≤ length (kept y p)))
              → steps_struck m y ≤ steps_struck m x
          by_case (inl less) = absurd (omega (arith, (balances j y t).0, (balances i x success).0))
          by_case (inr (same, no_longer)) = omega (arith, (balances j y t).1, (balances i x success).1)

      earliest : (y : Reduction) (j : ℕ) → TrialLeaves s goal p m j y → cost_struck p m y ≡ cost_struck p m x
          → steps_struck m y ≡ steps_struck m x → i ≤ j
      earliest y j t same_cost same_steps = by_case (ltb j i) refl
        where
          never : Lower (kept x p) (kept y p) → ⊥
          never (inl less) = omega (arith, (balances j y t).0, (balances i x success).0)
          never (inr (same, shorter)) = omega (arith, (balances j y t).1, (balances i x success).1)

          by_case : (b : Bool) → ltb j i ≡ b → i ≤ j
          by_case true e = absurd (never (lower_true (kept x p) (kept y p) (c.earliest j (ltb-true j i e) y ((trial_in_words j y).1 t))))
          by_case false e = ltb-false j i e

  -- a round takes but one
  takes_once : (x y : Reduction) (i j : ℕ) → Takes s goal p m x i → Takes s goal p m y j → x ≡ y
  takes_once x y i j t u =
      let price : cost_struck p m y ≡ cost_struck p m x = omega (arith, t.largest y j u.success, u.largest x i t.success) in
      let number : steps_struck m y ≡ steps_struck m x =
      omega (arith, t.most y j u.success price, u.most x i t.success (sym price)) in
      let here : i ≡ j = omega (arith, t.earliest y j u.success price number, u.earliest x i t.success (sym price) (sym number)) in
      some-injective x y (sym ((trial_in_words i x).1 t.success) ∙ rw here ((trial_in_words j y).1 u.success))

  best_takes : (x : Reduction) → best s goal p m (length p) ≡ some x → (i : ℕ) × Takes s goal p m x i
  best_takes x h = let (i, c) = best_chosen s goal p m (length p) h in (i, chosen_takes x i c)

  best_fails : best s goal p m (length p) ≡ none → (i : ℕ) → TrialFails s goal p m i
  best_fails h i x t =
      let within : i < length p = omega (arith, kept_inside m i t.tried, v.fits) in
      (failure_in_words i).0 (best_none s goal p m (length p) h i within) x t

  -- a round of greedy elimination takes x just where document 01's does
  pub round_in_words : (x : Reduction) → best s goal p m (length p) ≡ some x ↔ ((i : ℕ) × Takes s goal p m x i)
  round_in_words x = (best_takes x, λ (i, t). by_case i t (best s goal p m (length p)) refl)
    where
      by_case : (i : ℕ) → Takes s goal p m x i → (r : Option Reduction) → best s goal p m (length p) ≡ r → best s goal p m (length p) ≡ some x
      by_case i t none e = absurd (best_fails e i x t.success)
      by_case i t (some y) e = let (j, u) = best_takes y e in e ∙ ap some (takes_once y x j i u t)

  -- and takes nothing just where no trial succeeds
  pub no_round_in_words : best s goal p m (length p) ≡ none ↔ ((i : ℕ) → TrialFails s goal p m i)
  no_round_in_words = (best_fails, λ fails. by_case fails (best s goal p m (length p)) refl)
    where
      by_case : ((i : ℕ) → TrialFails s goal p m i) → (r : Option Reduction) → best s goal p m (length p) ≡ r → best s goal p m (length p) ≡ none
      by_case fails none e = e
      by_case fails (some x) e = let (i, t) = best_takes x e in absurd (fails i x t.success)
