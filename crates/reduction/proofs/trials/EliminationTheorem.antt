-- What the eliminations leave of a valid list is what document 01's words leave, and nothing else: by the turns of elimination and the rounds of greedy
-- elimination, of which TrialTheorem has each. It is a valid reduction, for each success is one; and no trial succeeds on what greedy elimination leaves, for
-- each round that goes on lowers the number of kept steps. Assumes nothing.
use Prim.Native.Nat.{ℕ, zero, suc, ◌+◌, ◌-◌, ◌≤◌, ◌<◌}
use native.Mathlib.Omega.{arith}
use mathlib.Core.Path.{◌≡◌, refl, sym, ◌∙◌}
use mathlib.Core.Logic.{◌↔◌}
use mathlib.Core.Bool.{Bool, true, false}
use mathlib.Core.Option.{Option, none, some, get_or}
use mathlib.Core.List.{List}
use lib.ListN.{length, length-replicate, get_or-eq_default}
use lib.Dec.{ltb}
use borrow.Author.Tests.{ltb-true, ltb-false}
use Rattle.sas.specs.Task.{Assignment, State, Action}
use Rattle.reduction.specs.Reduction.{Reduction, count, whole, valid, ValidReduction}
use Rattle.reduction.specs.Trials.{EliminationLeaves, strikes_stand, does_step, all_tried, GreedyLeaves, takes, without_success, Shortens}
use Rattle.reduction.specs.Between.Elimination.{trial, eliminated, eliminate, best, rounds, greedy}
use Rattle.reduction.proofs.ReductionLaws.{whole_valid, kept_length, count_whole, left_length, left_cost}
use Rattle.reduction.proofs.trials.GreedyChoice.{best_none, best_chosen}
use Rattle.reduction.proofs.trials.TrialTheorem.{trial_in_words, failure_in_words, round_in_words, no_round_in_words}
use Rattle.reduction.proofs.trials.TrialLaws.{Succeeds, trial_succeeds, unkept_fails, success_length, success_valid, success_count}

-- what a success leaves of a reduction is a valid reduction
success_reduction : {s : State} {goal : Assignment} {p : List Action} {m n : Reduction} {i : ℕ} → length m ≡ length p
    → Succeeds s goal p m i n → ValidReduction s goal p n
success_reduction fits t = record { fits = success_length t ∙ fits; valid_left = success_valid t }

module _ (s : State) (goal : Assignment) (p : List Action) where
  eliminated_valid : valid s goal p ≡ true → (n : ℕ) → ValidReduction s goal p (eliminated s goal p n)
  unfolding eliminated
  eliminated_valid v zero = whole_valid p v
  eliminated_valid v (suc n) = by_case (eliminated_valid v n) (trial s goal p (eliminated s goal p n) n) refl
    where
      by_case : ValidReduction s goal p (eliminated s goal p n) → (r : Option Reduction) → trial s goal p (eliminated s goal p n) n ≡ r
          → ValidReduction s goal p (get_or (trial s goal p (eliminated s goal p n) n) (eliminated s goal p n))
      by_case m none e = rw e m
      by_case m (some k) e = rw e (success_reduction m.fits (trial_succeeds s goal p (eliminated s goal p n) n e))

  -- what a round takes is a success
  best_succeeds : {k : Reduction} (m : Reduction) → best s goal p m (length p) ≡ some k → (i : ℕ) × Succeeds s goal p m i k
  best_succeeds m h = let (i, c) = best_chosen s goal p m (length p) h in (i, trial_succeeds s goal p m i c.success)

  -- and where it takes nothing, no trial succeeds, nor is there a step to try past the list
  none_succeeds : (m : Reduction) → length m ≡ length p → best s goal p m (length p) ≡ none → (i : ℕ) → trial s goal p m i ≡ none
  none_succeeds m fits h i = by_case (ltb i (length p)) refl
    where
      by_case : (b : Bool) → ltb i (length p) ≡ b → trial s goal p m i ≡ none
      by_case true e = best_none s goal p m (length p) h i (ltb-true i (length p) e)
      by_case false e = unkept_fails s goal p m i (get_or-eq_default m false (omega (arith, ltb-false i (length p) e)))

  rounds_valid : (n : ℕ) (m : Reduction) → ValidReduction s goal p m → ValidReduction s goal p (rounds s goal p n m)
  unfolding rounds
  rounds_valid zero m v = v
  rounds_valid (suc n) m v = by_case (rounds_valid n) (best s goal p m (length p)) refl
    where
      by_case : ((k : Reduction) → ValidReduction s goal p k → ValidReduction s goal p (rounds s goal p n k)) → (r : Option Reduction) → best s goal p m (length p) ≡ r
          → ValidReduction s goal p (rounds s goal p (suc n) m)
      by_case rest none e = rw (e, rounds) v
      by_case rest (some k) e = rw (e, rounds) (rest k (success_reduction v.fits (best_succeeds m e).1))

  -- rounds that are no fewer than the kept steps end with one without success
  rounds_end : (n : ℕ) (m : Reduction) → length m ≡ length p → count m ≤ n → (i : ℕ) → trial s goal p (rounds s goal p n m) i ≡ none
  unfolding rounds
  rounds_end zero m fits few = λ i. by_case i (trial s goal p m i) refl
    where
      by_case : (i : ℕ) (r : Option Reduction) → trial s goal p m i ≡ r → trial s goal p m i ≡ none
      by_case i none e = e
      by_case i (some k) e = absurd (omega (arith, success_count (trial_succeeds s goal p m i e)))
  rounds_end (suc n) m fits few = by_case (rounds_end n) (best s goal p m (length p)) refl
    where
      by_case : ((k : Reduction) → length k ≡ length p → count k ≤ n → (i : ℕ) → trial s goal p (rounds s goal p n k) i ≡ none)
          → (r : Option Reduction) → best s goal p m (length p) ≡ r → (i : ℕ) → trial s goal p (rounds s goal p (suc n) m) i ≡ none
      by_case rest none e = rw (e, rounds) (none_succeeds m fits e)
      by_case rest (some k) e =
          let (j, t) = best_succeeds m e in
          rw (e, rounds) (rest k (success_length t ∙ fits) (omega (arith, success_count t)))

valid_shortens : {s : State} {goal : Assignment} {p : List Action} {m : Reduction} → ValidReduction s goal p m → Shortens s goal p m
valid_shortens {p = p} {m = m} v =
    record { reduction = v; no_longer = omega (arith, kept_length m p v.fits, left_length m p v.fits); no_dearer = left_cost m p v.fits }

module _ (s : State) (goal : Assignment) (p : List Action) where
  pub eliminate_shortens : valid s goal p ≡ true → Shortens s goal p (eliminate s goal p)
  unfolding eliminate
  eliminate_shortens v = valid_shortens (eliminated_valid s goal p v (length p))

  pub greedy_shortens : valid s goal p ≡ true → Shortens s goal p (greedy s goal p)
  unfolding greedy
  greedy_shortens v = valid_shortens (rounds_valid s goal p (length p) (whole p) (whole_valid p v))

  -- greedy elimination ends: no trial succeeds on what it leaves
  pub greedy_ends : (i : ℕ) → trial s goal p (greedy s goal p) i ≡ none
  unfolding greedy
  greedy_ends = rounds_end s goal p (length p) (whole p) (length-replicate (length p) true) (omega (arith, count_whole p))

-- turn by turn
module _ (s : State) (goal : Assignment) (p : List Action) (v : valid s goal p ≡ true) where
  abbrev at_turn : ℕ → Reduction
  at_turn n = eliminated s goal p n

  turn_success : (n : ℕ) (x : Reduction) → trial s goal p (at_turn n) n ≡ some x → at_turn (suc n) ≡ x
  unfolding eliminated
  turn_success n x e = rw e

  turn_failure : (n : ℕ) → trial s goal p (at_turn n) n ≡ none → at_turn (suc n) ≡ at_turn n
  unfolding eliminated
  turn_failure n e = rw e

  -- past the end of the list nothing is tried
  turns_past : (k : ℕ) → at_turn (k + length p) ≡ at_turn (length p)
  turns_past zero = let here : 0 + length p ≡ length p = omega arith in rw here
  turns_past (suc k) =
      let here : suc k + length p ≡ suc (k + length p) = omega arith in
      let fits : length (at_turn (k + length p)) ≡ length p = (eliminated_valid s goal p v (k + length p)).fits in
      rw here
      (turn_failure (k + length p) (unkept_fails s goal p (at_turn (k + length p)) (k + length p) (get_or-eq_default (at_turn (k + length p)) false (omega arith)))
      ∙ turns_past k)

  turns_leave : (k n : ℕ) → length p ≡ n + k → EliminationLeaves s goal p n (at_turn n) (eliminate s goal p)
  unfolding eliminate
  turns_leave zero n all = let here : length p ≡ n = omega arith in rw here (all_tried {i = n} (eliminated_valid s goal p v n) (omega arith))
  turns_leave (suc k) n all = by_case (turns_leave k (suc n) (omega arith)) (trial s goal p (at_turn n) n) refl
    where
      by_case : EliminationLeaves s goal p (suc n) (at_turn (suc n)) (eliminate s goal p) → (r : Option Reduction) → trial s goal p (at_turn n) n ≡ r
          → EliminationLeaves s goal p n (at_turn n) (eliminate s goal p)
      by_case rest none e =
          does_step (eliminated_valid s goal p v n) ((failure_in_words s goal p (at_turn n) (eliminated_valid s goal p v n) n).0 e) (rw (turn_failure n e) at rest)
      by_case rest (some x) e =
          strikes_stand (eliminated_valid s goal p v n) ((trial_in_words s goal p (at_turn n) (eliminated_valid s goal p v n) n x).0 e) (rw (turn_success n x e) at rest)

  turns_only : {n : ℕ} {m x : Reduction} → EliminationLeaves s goal p n m x → m ≡ at_turn n → x ≡ eliminate s goal p
  unfolding eliminate
  turns_only {n} {m} {x} (strikes_stand {n = k} now t rest) same =
      turns_only rest (sym (turn_success n k (rw same at ((trial_in_words s goal p m now n k).1 t))))
  turns_only {n} {m} {x} (does_step now fails rest) same =
      turns_only rest (same ∙ sym (turn_failure n (rw same at ((failure_in_words s goal p m now n).1 fails))))
  turns_only {n} {m} (all_tried now past) same =
      let here : (n - length p) + length p ≡ n = omega arith in
      same ∙ rw here at (turns_past (n - length p))

  -- elimination leaves what document 01's words leave, and nothing else
  pub elimination_in_words : (x : Reduction) → x ≡ eliminate s goal p ↔ EliminationLeaves s goal p 0 (whole p) x
  unfolding eliminated
  elimination_in_words x =
      (λ is. rw is (turns_leave (length p) 0 (omega arith)), λ leaves. turns_only leaves refl)

-- round by round
module _ (s : State) (goal : Assignment) (p : List Action) where
  rounds_leave : (n : ℕ) (m : Reduction) → ValidReduction s goal p m → count m ≤ n → GreedyLeaves s goal p m (rounds s goal p n m)
  unfolding rounds
  rounds_leave zero m now few = without_success now (λ i. (failure_in_words s goal p m now i).0 (rounds_end s goal p zero m now.fits few i))
  rounds_leave (suc n) m now few = by_case (rounds_leave n) (best s goal p m (length p)) refl
    where
      by_case : ((k : Reduction) → ValidReduction s goal p k → count k ≤ n → GreedyLeaves s goal p k (rounds s goal p n k))
          → (r : Option Reduction) → best s goal p m (length p) ≡ r → GreedyLeaves s goal p m (rounds s goal p (suc n) m)
      by_case rest none e = rw (e, rounds) (without_success now ((no_round_in_words s goal p m now).0 e))
      by_case rest (some k) e =
          let (i, t) = (round_in_words s goal p m now k).0 e in
          let (j, success) = best_succeeds s goal p m e in
          rw (e, rounds) (takes now t (rest k (success_reduction now.fits success) (omega (arith, success_count success))))

  rounds_only : {m x : Reduction} → GreedyLeaves s goal p m x → (n : ℕ) → count m ≤ n → x ≡ rounds s goal p n m
  unfolding rounds
  rounds_only {m} {x} (takes {n = k} {i = i} now t rest) n few = by_rounds (rounds_only rest) n few
    where
      taken : best s goal p m (length p) ≡ some k
      taken = (round_in_words s goal p m now k).1 (i, t)

      fewer : count k < count m
      fewer = success_count (best_succeeds s goal p m taken).1

      by_rounds : ((n : ℕ) → count k ≤ n → x ≡ rounds s goal p n k) → (n : ℕ) → count m ≤ n → x ≡ rounds s goal p n m
      by_rounds behind zero few = absurd (omega (arith, fewer))
      by_rounds behind (suc n) few = rw (taken, rounds) (behind n (omega (arith, fewer)))
  rounds_only {m} (without_success now fails) zero few = refl
  rounds_only {m} (without_success now fails) (suc n) few = rw ((no_round_in_words s goal p m now).1 fails, rounds)

  -- greedy elimination leaves what document 01's words leave, and nothing else
  pub greedy_in_words : valid s goal p ≡ true
      → (x : Reduction) → x ≡ greedy s goal p ↔ GreedyLeaves s goal p (whole p) x
  unfolding greedy
  greedy_in_words v x =
      (λ is. rw is (rounds_leave (length p) (whole p) (whole_valid p v) (omega (arith, count_whole p))), λ leaves. rounds_only leaves (length p) (omega (arith, count_whole p)))
