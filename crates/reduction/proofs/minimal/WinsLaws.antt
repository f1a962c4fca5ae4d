-- When one reduction of a plan wins against another: where its list is lower, or the other's is not and their first difference decides. Two reductions that
-- win against each other are one, for at their first difference both would keep the step. By what `lower` says in numbers. Assumes nothing.
use Prim.Native.Nat.{ℕ, zero, suc, ◌≤◌, ◌<◌}
use native.Mathlib.Omega.{arith}
use mathlib.Core.Path.{◌≡◌, refl, sym, ◌∙◌, ap}
use mathlib.Core.Logic.{◌⊎◌, inl, inr}
use mathlib.Core.Bool.{Bool, true, false, true≢false, false≢true}
use mathlib.Core.List.{List, [], ◌∷◌}
use lib.ListN.{length, get_or}
use Rattle.sas.specs.Task.{Action}
use Rattle.sas.specs.Plan.{cost}
use Rattle.reduction.specs.Reduction.{Reduction, keeps, kept, count, whole}
use Rattle.reduction.specs.Between.Order.{lower}
use Rattle.reduction.proofs.ReductionLaws.{kept_length, strike_count, contains_whole, count_whole, left_cost}
use Rattle.reduction.proofs.LowerLaws.{Lower, lower_true, true_lower, lower_false, lower_through}
use Rattle.reduction.specs.Minimal.{FirstDifference, Wins}

pub not_lower : (x y : List Action) → (Lower x y → ⊥) → lower x y ≡ false
not_lower x y never = by_case (lower x y) refl
  where
    by_case : (b : Bool) → lower x y ≡ b → lower x y ≡ false
    by_case true e = absurd (never (lower_true x y e))
    by_case false e = e

-- what is not lower than a list that is not lower than another is not lower than that one
pub not_lower_through : (x y z : List Action) → lower x y ≡ false → lower y z ≡ false → lower x z ≡ false
not_lower_through x y z h k = not_lower x z (λ less. true≢false (sym (lower_through x z y (true_lower x z less) k) ∙ h))

module _ (p : List Action) (m n : Reduction) (fits : length m ≡ length p) (other_fits : length n ≡ length p) where
  steps : (length (kept m p) ≡ count m) × (length (kept n p) ≡ count n)
  steps = (kept_length m p fits, kept_length n p other_fits)

  pub not_lower_wins : lower (kept n p) (kept m p) ≡ false → ((i : ℕ) → FirstDifference m n i → keeps n i) → Wins p m n
  not_lower_wins h first = by_case (lower_false (kept n p) (kept m p) h)
    where
      by_case : (cost (kept m p) < cost (kept n p)) ⊎ ((cost (kept m p) ≡ cost (kept n p)) × (length (kept m p) ≤ length (kept n p))) → Wins p m n
      by_case (inl less) = record { no_dearer = omega arith; no_longer = λ same. omega arith; strikes_first = λ same even. first }
      by_case (inr (same, less)) = record { no_dearer = omega arith; no_longer = λ same. omega (arith, steps); strikes_first = λ same even. first }

  pub lower_wins : lower (kept m p) (kept n p) ≡ true → Wins p m n
  lower_wins h = by_case (lower_true (kept m p) (kept n p) h)
    where
      by_case : Lower (kept m p) (kept n p) → Wins p m n
      by_case (inl less) = record { no_dearer = omega arith; no_longer = λ same. omega arith; strikes_first = λ same even. absurd (omega arith) }
      by_case (inr (same, less)) =
          record { no_dearer = omega arith; no_longer = λ same. omega (arith, steps); strikes_first = λ same even. absurd (omega (arith, steps)) }

  -- and nothing is lower than what wins against it
  pub wins_not_lower : Wins p m n → lower (kept n p) (kept m p) ≡ false
  wins_not_lower w = not_lower (kept n p) (kept m p) never
    where
      never : Lower (kept n p) (kept m p) → ⊥
      never (inl less) = omega (arith, w.no_dearer)
      never (inr (same, less)) = omega (arith, steps, w.no_longer (sym same))

-- two reductions that begin alike differ first where they do behind that
strikes_behind : (b : Bool) (m n : Reduction) → ((i : ℕ) → FirstDifference m n i → keeps n i) → (i : ℕ) → FirstDifference (b ∷ m) (b ∷ n) i → keeps (b ∷ n) i
strikes_behind b m n first zero h = absurd (h.here refl)
strikes_behind b m n first (suc i) h = first i (record { before = λ k less. h.before (suc k) (omega arith); here = h.here })

-- so the same wins
pub wins_behind : (b : Bool) (a : Action) (p : List Action) (m n : Reduction) → Wins p m n → Wins (a ∷ p) (b ∷ m) (b ∷ n)
unfolding kept count cost
wins_behind false a p m n w =
    record { no_dearer = w.no_dearer; no_longer = w.no_longer; strikes_first = λ same even. strikes_behind false m n (w.strikes_first same even) }
wins_behind true a p m n w =
    record {
      no_dearer = omega (arith, w.no_dearer);
      no_longer = λ same. omega (arith, w.no_longer (omega arith));
      strikes_first = λ same even. strikes_behind true m n (w.strikes_first (omega arith) (omega arith));
    }

-- two reductions of one length are equal or have a first difference
difference : (m n : Reduction) → length m ≡ length n → (m ≡ n) ⊎ ((i : ℕ) × FirstDifference m n i)
difference [] [] fits = inl refl
difference [] (c ∷ n) fits = absurd (omega arith)
difference (b ∷ m) [] fits = absurd (omega arith)
difference (b ∷ m) (c ∷ n) fits = by_case (difference m n (omega arith)) b c
  where
    later : (d : Bool) (i : ℕ) → FirstDifference m n i → FirstDifference (d ∷ m) (d ∷ n) (suc i)
    later d i h = record { before = λ k. elim k as (λ k. k < suc i → get_or (d ∷ m) k false ≡ get_or (d ∷ n) k false) [ zero ↦ λ less. refl | suc k ↦ λ less. h.before k (omega arith) ]; here = h.here }

    behind : (d : Bool) → (m ≡ n) ⊎ ((i : ℕ) × FirstDifference m n i) → (d ∷ m ≡ d ∷ n) ⊎ ((i : ℕ) × FirstDifference (d ∷ m) (d ∷ n) i)
    behind d (inl same) = inl (ap (λ r. d ∷ r) same)
    behind d (inr (i, h)) = inr (suc i, later d i h)

    by_case : (m ≡ n) ⊎ ((i : ℕ) × FirstDifference m n i) → (b c : Bool) → (b ∷ m ≡ c ∷ n) ⊎ ((i : ℕ) × FirstDifference (b ∷ m) (c ∷ n) i)
    by_case rest true true = behind true rest
    by_case rest false false = behind false rest
    by_case rest true false = inr (0, record { before = λ k less. absurd (omega arith); here = true≢false })
    by_case rest false true = inr (0, record { before = λ k less. absurd (omega arith); here = false≢true })

pub wins_once : (p : List Action) (m n : Reduction) → length m ≡ length n → Wins p m n → Wins p n m → m ≡ n
wins_once p m n fits v w = by_case (difference m n fits)
  where
    dear : cost (kept m p) ≡ cost (kept n p)
    dear = omega (arith, v.no_dearer, w.no_dearer)

    even : count m ≡ count n
    even = omega (arith, v.no_longer dear, w.no_longer (sym dear))

    by_case : (m ≡ n) ⊎ ((i : ℕ) × FirstDifference m n i) → m ≡ n
    by_case (inl same) = same
    by_case (inr (i, h)) =
        let back : FirstDifference n m i = record { before = λ k less. sym (h.before k less); here = λ e. h.here (sym e) } in
        absurd (h.here (w.strikes_first (sym dear) (sym even) i back ∙ sym (v.strikes_first dear even i h)))

-- a reduction that keeps as many steps as there are strikes none
pub full_whole : {A : Type 0} (p : List A) (m : Reduction) → length m ≡ length p → length p ≤ count m → m ≡ whole p
unfolding count
full_whole [] [] fits full = refl
full_whole [] (b ∷ m) fits full = absurd (omega arith)
full_whole (a ∷ p) [] fits full = absurd (omega arith)
full_whole (a ∷ p) (true ∷ m) fits full = ap (λ r. true ∷ r) (full_whole p m (omega arith) (omega arith))
full_whole (a ∷ p) (false ∷ m) fits full =
    let rest_fits : length m ≡ length p = omega arith in
    absurd (omega (arith, strike_count (whole p) m (contains_whole m p rest_fits), count_whole p))

-- so only that one is not lower than the plan
pub lowest_whole : (p : List Action) (m : Reduction) → length m ≡ length p → lower (kept m p) p ≡ false → m ≡ whole p
lowest_whole p m fits h = by_case (lower_false (kept m p) p h)
  where
    by_case : (cost p < cost (kept m p)) ⊎ ((cost p ≡ cost (kept m p)) × (length p ≤ length (kept m p))) → m ≡ whole p
    by_case (inl less) = absurd (omega (arith, left_cost m p fits))
    by_case (inr (same, less)) = full_whole p m fits (omega (arith, kept_length m p fits))
