-- What the states along a list are: each is γ(I, ⟨a₁, …, aᵢ⟩); a plan has one more of them than steps, and a list that is stuck at a step has as many as that step's
-- position. By induction along the actions that can be applied. Assumes nothing.
use Prim.Native.Nat.{ℕ, zero, suc, ◌+◌, ◌<◌}
use native.Mathlib.Omega.{arith}
use mathlib.Core.Path.{◌≡◌, refl, sym, ◌∙◌, ap}
use mathlib.Core.Bool.{Bool, true, false}
use mathlib.Core.Option.{some, some-ne-none}
use mathlib.Core.List.{List, [], ◌∷◌, ◌++◌, append-nil}
use lib.ListN.{length, get_or, take}
use Rattle.sas.specs.Task.{State, Action}
use Rattle.sas.specs.Plan.{applicable, apply, run, Stuck}
use Rattle.sas.proofs.ActionLaws.{result_stuck}
use Rattle.sas.proofs.RunLaws.{run_nothing, run_end, run_applied, run_no_result}
use Rattle.course.specs.Course.{states_along}
use Rattle.course.proofs.CourseLaws.{along_nothing, along_stuck, along_applied}

-- behind actions that can be done in turn
after_done : {t : State} (s : State) (p q : List Action) → run s p ≡ some t → length (states_along s (p ++ q)) ≡ length p + length (states_along t q)
after_done {t} s [] q h = let same : length (states_along s q) ≡ length (states_along t q) = ap (λ u. length (states_along u q)) (run_end s t h) in omega arith
after_done {t} s (a ∷ p) q h = by_case (after_done (apply s a) p q) (applicable s a) refl
  where
    by_case : (run (apply s a) p ≡ some t → length (states_along (apply s a) (p ++ q)) ≡ length p + length (states_along t q)) → (b : Bool) → applicable s a ≡ b
        → length (states_along s (a ∷ (p ++ q))) ≡ suc (length p) + length (states_along t q)
    by_case later true e = omega (arith, ap length (along_applied s a (p ++ q) e), later (sym (run_applied s a p e) ∙ h))
    by_case later false e = absurd (some-ne-none t (sym h ∙ run_no_result s a p (result_stuck s a e)))

-- a sequence that can be done has one state more than actions
pub whole_course : {t : State} (s : State) (p : List Action) → run s p ≡ some t → length (states_along s p) ≡ length p + 1
whole_course {t} s p h = omega (arith, ap (λ q. length (states_along s q)) (append-nil p), after_done s p [] h, ap length (along_nothing t))

-- one that is stuck has as many as the position of the action that can't be applied
pub stuck_course : (s : State) (p : List Action) (k : ℕ) → Stuck s p k → length (states_along s p) ≡ k
stuck_course s p k stuck =
    omega (
      arith,
      ap (λ q. length (states_along s q)) stuck.parts,
      after_done s stuck.earlier (stuck.here ∷ stuck.later) stuck.reached,
      ap length (along_stuck stuck.before stuck.here stuck.later stuck.not_applicable),
      stuck.position,
    )

-- and each is the state that so many actions reach
pub course_reached : (s : State) (p : List Action) (i : ℕ) → i < length (states_along s p) → run s (take i p) ≡ some (get_or (states_along s p) i [])
course_reached s [] zero low = run_nothing s ∙ ap (λ ss. some (get_or ss 0 [])) (sym (along_nothing s))
course_reached s [] (suc k) low = absurd (omega (arith, ap length (along_nothing s)))
course_reached s (a ∷ p) i low = by_case (course_reached (apply s a) p) (applicable s a) refl i low
  where
    by_case : ((k : ℕ) → k < length (states_along (apply s a) p) → run (apply s a) (take k p) ≡ some (get_or (states_along (apply s a) p) k [])) → (b : Bool) → applicable s a ≡ b
        → (i : ℕ) → i < length (states_along s (a ∷ p)) → run s (take i (a ∷ p)) ≡ some (get_or (states_along s (a ∷ p)) i [])
    by_case later true e zero low = run_nothing s ∙ ap (λ ss. some (get_or ss 0 [])) (sym (along_applied s a p e))
    by_case later true e (suc k) low =
        run_applied s a (take k p) e ∙ later k (omega (arith, ap length (along_applied s a p e))) ∙ ap (λ ss. some (get_or ss (suc k) [])) (sym (along_applied s a p e))
    by_case later false e zero low = run_nothing s ∙ ap (λ ss. some (get_or ss 0 [])) (sym (along_stuck s a p e))
    by_case later false e (suc k) low = absurd (omega (arith, ap length (along_stuck s a p e)))
