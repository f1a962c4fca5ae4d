-- What a valid list does: it runs to a state that passes the test at the end, and what stands behind its first steps is valid from where they lead; for the
-- goal of a task and of the task's actions it is a plan of SAS+. By the laws of `run`. Assumes nothing.
use mathlib.Core.Path.{◌≡◌, refl, sym, ◌∙◌}
use mathlib.Core.Bool.{Bool, true, false≢true}
use mathlib.Core.Option.{Option, none, some}
use mathlib.Core.List.{List, [], ◌∷◌, ◌++◌, Memᴰ}
use Rattle.sas.specs.Task.{State, Action, Task}
use Rattle.sas.specs.Plan.{result, run, Plan}
use Rattle.sas.proofs.RunLaws.{run_nothing, run_first, run_append}
use Rattle.reduction.specs.Reduction.{valid_for, meets, valid}

module _ (ends : State → Bool) where
  pub runs_valid : (s t : State) (p : List Action) → run s p ≡ some t → valid_for ends s p ≡ ends t
  unfolding valid_for
  runs_valid s t p h = rw (h, valid_for)

  pub valid_runs : (s : State) (p : List Action) → valid_for ends s p ≡ true → (t : State) × (run s p ≡ some t) × (ends t ≡ true)
  unfolding valid_for
  valid_runs s p h = by_case (run s p) refl
    where
      by_case : (r : Option State) → run s p ≡ r → (t : State) × (run s p ≡ some t) × (ends t ≡ true)
      by_case none e = absurd (false≢true (rw (e, valid_for) at h))
      by_case (some t) e = (t, e, rw (e, valid_for) at h)

  -- where no step is left, the state passes the test
  pub valid_end : (s : State) → valid_for ends s [] ≡ true → ends s ≡ true
  valid_end s h = sym (runs_valid s s [] (run_nothing s)) ∙ h

  -- the first step of a valid list has a result, from which the rest is valid
  pub valid_first : (s : State) (a : Action) (p : List Action) → valid_for ends s (a ∷ p) ≡ true
      → (t : State) × (result s a ≡ some t) × (valid_for ends t p ≡ true)
  valid_first s a p h =
      let (u, reached, met) = valid_runs s (a ∷ p) h in
      let (t, first, rest) = run_first s a p reached in
      (t, first, runs_valid t u p rest ∙ met)

  -- steps that can be done leave a list as valid as the rest from where they lead
  pub valid_behind : (s t : State) (p q : List Action) → run s p ≡ some t → valid_for ends s (p ++ q) ≡ valid_for ends t q
  unfolding valid_for
  valid_behind s t p q h = rw (run_append s t p q h, valid_for)

module _ (T : Task) (p : List Action) where
  -- a plan is valid
  pub plan_valid : Plan T p → valid T.initial T.goal p ≡ true
  plan_valid plan = runs_valid (meets T.goal) T.initial plan.end p plan.reached ∙ plan.goal

  -- and a valid list of the task's actions is a plan
  pub valid_plan : ((a : Action) → Memᴰ a p → Memᴰ a T.actions) → valid T.initial T.goal p ≡ true → Plan T p
  valid_plan known h = let (t, reached, met) = valid_runs (meets T.goal) T.initial p h in record { known = known; end = t; reached = reached; goal = met }
