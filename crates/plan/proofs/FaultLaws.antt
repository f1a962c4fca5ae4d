-- Where a sequence of actions fails to be valid and the state that it ends in: by the cases of the sequence; by those of a loop over a list of
-- action numbers; and against SAS+, where a sequence without fault is one that runs to a state that satisfies the goal, and a fault is the position
-- at which it is stuck, or the one past its end. By list induction, along the actions that can be applied. Assumes nothing.
use Rattle.std.specs.Prelude.{None, Some}
use Prim.Native.Nat.{ℕ, zero, suc, ◌+◌, ◌≤◌, ◌<◌}
use native.Mathlib.Omega.{arith}
use native.Mathlib.Numerals.{add-one}
use mathlib.Core.Path.{◌≡◌, refl, sym, ◌∙◌}
use mathlib.Core.Logic.{◌⊎◌, inl, inr}
use mathlib.Core.Bool.{Bool, true, false, not}
use mathlib.Core.Option.{Option, none, some}
use mathlib.Core.List.{List, [], ◌∷◌, ◌++◌, map, append-nil}
use lib.ListN.{length, get_or, drop, drop_of_length-le}
use lib.Seq.{drop-cons}
use Rattle.refusal.specs.Place.{when}
use Rattle.sas.specs.Task.{Assignment, State, Action}
use Rattle.sas.specs.Plan.{satisfies, applicable, apply, run, Stuck, Unmet}
use Rattle.sas.proofs.ActionLaws.{apply_length, result_applicable, result_assigned}
use Rattle.sas.proofs.RunLaws.{run_end, run_first}
use Rattle.sas.proofs.Faults.{none_stuck}
use Rattle.tally.specs.declared.Tally.{Tally}
use Rattle.tally.specs.Tally.{one_more, after}
use Rattle.sheet.specs.Layout.{cost_word}
use Rattle.sheet.specs.Decode.{action}
use Rattle.plan.specs.Valid.{steps}
use Rattle.plan.specs.Between.Fault.{fault, final}

-- the actions of the steps from index n on
pub steps_drop : (w l : List ℕ) (n : ℕ) → steps w (drop n l) ≡ drop n (steps w l)
steps_drop w l zero = refl
steps_drop w [] (suc n) = refl
steps_drop w (a ∷ l) (suc n) = steps_drop w l n

-- no action is left, and the goal is looked at
pub fault_end : (goal : Assignment) (s : State) (i : ℕ) → fault goal s i [] ≡ when (not (satisfies s goal)) i
unfolding fault
fault_end goal s i = refl

pub fault_met : (goal : Assignment) (s : State) (i : ℕ) → satisfies s goal ≡ true → fault goal s i [] ≡ None
fault_met goal s i h = fault_end goal s i ∙ rw h

pub fault_unmet : (goal : Assignment) (s : State) (i : ℕ) → satisfies s goal ≡ false → fault goal s i [] ≡ Some i
fault_unmet goal s i h = fault_end goal s i ∙ rw h

-- the first action can't be applied
pub fault_stuck : (goal : Assignment) (s : State) (i : ℕ) (a : Action) (p : List Action) → applicable s a ≡ false → fault goal s i (a ∷ p) ≡ Some i
unfolding fault
fault_stuck goal s i a p h = rw (h, fault)

-- the first action is applied, and the others are left
pub fault_applied : (goal : Assignment) (s : State) (i : ℕ) (a : Action) (p : List Action) → applicable s a ≡ true
    → fault goal s i (a ∷ p) ≡ fault goal (apply s a) (i + 1) p
unfolding fault
fault_applied goal s i a p h = rw (h, fault)

pub final_end : (s : State) → final s [] ≡ s
unfolding final
final_end s = refl

pub final_applied : (s : State) (a : Action) (p : List Action) → final s (a ∷ p) ≡ final (apply s a) p
unfolding final
final_applied s a p = refl

pub final_length : (s : State) (p : List Action) → length (final s p) ≡ length s
unfolding final
final_length s [] = refl
final_length s (a ∷ p) = final_length (apply s a) p ∙ apply_length s a

after_end : (t : Tally) → after t [] ≡ t
unfolding after
after_end t = refl

after_next : (t : Tally) (c : ℕ) (costs : List ℕ) → after t (c ∷ costs) ≡ after (one_more t c) costs
unfolding after
after_next t c costs = refl

-- the entry at index i comes next
pub drop_next : (l : List ℕ) (i : ℕ) → i < length l → drop i l ≡ get_or l i 0 ∷ drop (i + 1) l
drop_next l i h = rw (add-one i) (drop-cons l i 0 h)

-- a loop over a list of action numbers, at index i, where the step at position i + 1 comes next
module _ (w l : List ℕ) where
  -- the step can't be done
  pub fault_here : (goal : Assignment) (s : State) (i : ℕ) → i < length l → applicable s (action w (get_or l i 0)) ≡ false
      → fault goal s (i + 1) (steps w (drop i l)) ≡ Some (i + 1)
  fault_here goal s i h e = rw (drop_next l i h) (fault_stuck goal s (i + 1) (action w (get_or l i 0)) (steps w (drop (i + 1) l)) e)

  -- the step is done
  pub fault_more : (goal : Assignment) (s : State) (i : ℕ) → i < length l → applicable s (action w (get_or l i 0)) ≡ true
      → fault goal s (i + 1) (steps w (drop i l)) ≡ fault goal (apply s (action w (get_or l i 0))) (i + 1 + 1) (steps w (drop (i + 1) l))
  fault_more goal s i h e = rw (drop_next l i h) (fault_applied goal s (i + 1) (action w (get_or l i 0)) (steps w (drop (i + 1) l)) e)

  -- no step is left, and the goal is looked at
  pub fault_goal : (goal : Assignment) (s : State) (i : ℕ) → length l ≤ i → fault goal s (i + 1) (steps w (drop i l)) ≡ when (not (satisfies s goal)) (i + 1)
  fault_goal goal s i h = rw (drop_of_length-le l h) (fault_end goal s (i + 1))

  pub final_more : (s : State) (i : ℕ) → i < length l → final s (steps w (drop i l)) ≡ final (apply s (action w (get_or l i 0))) (steps w (drop (i + 1) l))
  final_more s i h = rw (drop_next l i h) (final_applied s (action w (get_or l i 0)) (steps w (drop (i + 1) l)))

  pub final_over : (s : State) (i : ℕ) → length l ≤ i → final s (steps w (drop i l)) ≡ s
  final_over s i h = rw (drop_of_length-le l h) (final_end s)

  pub after_more : (t : Tally) (i : ℕ) → i < length l
      → after t (map (cost_word w) (drop i l)) ≡ after (one_more t (cost_word w (get_or l i 0))) (map (cost_word w) (drop (i + 1) l))
  after_more t i h = rw (drop_next l i h) (after_next t (cost_word w (get_or l i 0)) (map (cost_word w) (drop (i + 1) l)))

  pub after_over : (t : Tally) (i : ℕ) → length l ≤ i → after t (map (cost_word w) (drop i l)) ≡ t
  after_over t i h = rw (drop_of_length-le l h) (after_end t)

-- a sequence that can be done leaves what comes after it
pub fault_after : {t : State} (goal : Assignment) (s : State) (i : ℕ) (p q : List Action) → run s p ≡ some t
    → fault goal s i (p ++ q) ≡ fault goal t (i + length p) q
fault_after {t} goal s i [] q h = let same : i ≡ i + 0 = omega arith in rw (← same, run_end s t h)
fault_after {t} goal s i (a ∷ p) q h =
    let (u, first, rest) = run_first s a p h in
    let here : u ≡ apply s a = result_assigned s a first in
    let further : i + 1 + length p ≡ i + length (a ∷ p) = omega arith in
    fault_applied goal s i a (p ++ q) (result_applicable s a first) ∙ rw (← here) (fault_after goal u (i + 1) p q rest ∙ rw further)

-- the state that a sequence reaches is the one after all its actions
pub run_final : {t : State} (s : State) (p : List Action) → run s p ≡ some t → t ≡ final s p
run_final {t} s [] h = sym (run_end s t h) ∙ sym (final_end s)
run_final {t} s (a ∷ p) h =
    let (u, first, rest) = run_first s a p h in
    run_final u p rest ∙ rw (result_assigned s a first) (sym (final_applied s a p))

-- a sequence is stuck, or runs to a state where the goal fails, or to one where it holds
data Outcome (goal : Assignment) (s : State) (p : List Action) : Type 0 where
  stuck : {j : ℕ} → Stuck s p j → Outcome goal s p
  unmet : Unmet goal s p → Outcome goal s p
  met : {t : State} → run s p ≡ some t → satisfies t goal ≡ true → Outcome goal s p

outcome : (goal : Assignment) (s : State) (p : List Action) → Outcome goal s p
outcome goal s p = by_run (run s p) refl
  where
    by_goal : (t : State) → run s p ≡ some t → (b : Bool) → satisfies t goal ≡ b → Outcome goal s p
    by_goal t h true e = met h e
    by_goal t h false e = unmet (record { end = t; reached = h; goal_fails = e })

    by_run : (r : Option State) → run s p ≡ r → Outcome goal s p
    by_run none h = stuck (none_stuck s p h).1
    by_run (some t) h = by_goal t h (satisfies t goal) refl

module _ (goal : Assignment) (s : State) (i : ℕ) (p : List Action) where
  whole : {t : State} → run s p ≡ some t → fault goal s i p ≡ fault goal t (i + length p) []
  whole h = rw append-nil at (fault_after goal s i p [] h)

  -- a sequence that runs to a state that satisfies the goal has no fault
  pub runs_faultless : {t : State} → run s p ≡ some t → satisfies t goal ≡ true → fault goal s i p ≡ None
  runs_faultless {t} h e = whole h ∙ fault_met goal t (i + length p) e

  -- one that runs to another state has it past its end
  pub unmet_fault : Unmet goal s p → fault goal s i p ≡ Some (i + length p)
  unmet_fault u = whole u.reached ∙ fault_unmet goal u.end (i + length p) u.goal_fails

  -- one that is stuck has it there
  pub stuck_fault : {j : ℕ} (k : Stuck s p j) → fault goal s i p ≡ Some (i + length k.earlier)
  stuck_fault k =
      rw k.parts
      (fault_after goal s i k.earlier (k.here ∷ k.later) k.reached
      ∙ fault_stuck goal k.before (i + length k.earlier) k.here k.later k.not_applicable)

  -- a sequence without fault runs to its final state, which satisfies the goal
  pub faultless_runs : fault goal s i p ≡ None → (run s p ≡ some (final s p)) × (satisfies (final s p) goal ≡ true)
  faultless_runs h = by_case (outcome goal s p)
    where
      never : {k : ℕ} → fault goal s i p ≡ Some k → ⊥
      never e = let impossible : ◌≡◌ {A = ℕ} 0 1 = cc in omega arith

      by_case : Outcome goal s p → (run s p ≡ some (final s p)) × (satisfies (final s p) goal ≡ true)
      by_case (stuck k) = absurd (never (stuck_fault k))
      by_case (unmet u) = absurd (never (unmet_fault u))
      by_case (met reached e) = rw (← run_final s p reached) (reached, e)

-- the fault of a sequence whose first action is at position 1 is the position at which it is stuck, or the one past its end
pub fault_told : (goal : Assignment) (s : State) (p : List Action) (k : ℕ) → fault goal s 1 p ≡ Some k → Stuck s p k ⊎ ((k ≡ length p + 1) × Unmet goal s p)
fault_told goal s p k h = by_case (outcome goal s p)
  where
    same : {j : ℕ} → fault goal s 1 p ≡ Some j → j ≡ k
    same e = cc

    by_case : Outcome goal s p → Stuck s p k ⊎ ((k ≡ length p + 1) × Unmet goal s p)
    by_case (stuck {j = j} m) =
        let there : j ≡ k = omega (arith, m.position, same (stuck_fault goal s 1 p m)) in
        inl (rw there at m)
    by_case (unmet u) = inr (omega (arith, same (unmet_fault goal s 1 p u)), u)
    by_case (met reached e) = let impossible : ◌≡◌ {A = ℕ} 0 1 = cc (runs_faultless goal s 1 p reached e) in absurd (omega arith)
