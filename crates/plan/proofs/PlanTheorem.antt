-- The check of a list passes just the plans of SAS+, and what it tells of a list is true of it: the first step that can't be done or the unmet goal,
-- the end state and the tally. A list that can be read leaves only the fault to the check, and the laws of the fault tell what SAS+'s γ does with the
-- list's actions. Nothing here is about the code: its contract cites the same definitions. Assumes nothing.
use Rattle.std.specs.Prelude.{None, Some}
use Prim.Native.Nat.{ℕ, ◌+◌, ◌-◌, ◌≤◌}
use native.Mathlib.Omega.{arith}
use mathlib.Core.Path.{◌≡◌, refl, sym, ◌∙◌, ap}
use mathlib.Core.Logic.{inl, inr, ◌↔◌}
use mathlib.Core.Option.{none, some, some-ne-none, some-injective}
use mathlib.Core.List.{List, [], ◌++◌}
use lib.ListN.{length, replicate, length-map}
use Rattle.refusal.specs.Place.{Place}
use Rattle.refusal.specs.declared.Refusal.TheVariants.{NotAPlan}
use Rattle.refusal.specs.Refusal.{Told, told_refusal}
use Rattle.refusal.specs.Check.{answer}
use Rattle.sas.specs.Plan.{Plan}
use Rattle.sheet.specs.Layout.{variables}
use Rattle.step.proofs.StateLaws.{few_variables, array_parts, initial_length}
use Rattle.refusal.proofs.CheckLaws.{told_parts, answer_nothing}
use Rattle.sheet.specs.Limits.{limits}
use Rattle.sheet.specs.Decode.{initial, goal, action, task}
use Rattle.plan.specs.Valid.{steps}
use Rattle.plan.specs.Between.Fault.{fault, final}
use Rattle.plan.specs.Checked.{plan_checks, end_state}
use Rattle.plan.specs.Valid.{FailsAt}
use Rattle.plan.specs.Between.Truly.{ToldTruly}
use Rattle.plan.proofs.FaultLaws.{final_length, runs_faultless, unmet_fault, stuck_fault, faultless_runs, fault_told}
use Rattle.plan.proofs.PlanLaws.{steps_known, passed_readable, fault_answers, faultless_passes, passes_faultless}
use Rattle.plan.specs.Readable.{Readable}

module _ (w l : List ℕ) (readable : Readable w l) where
  no_fault : answer (plan_checks w l) ≡ none → fault (goal w) (initial w) 1 (steps w l) ≡ None
  no_fault h = passes_faultless _ [] w l readable answer_nothing h

  passed_is_plan : answer (plan_checks w l) ≡ none → Plan (task w) (steps w l)
  unfolding task
  passed_is_plan h =
      let (reached, met) = faultless_runs (goal w) (initial w) 1 (steps w l) (no_fault h) in
      record { known = steps_known w l readable.accepted readable.known; end = final (initial w) (steps w l); reached = reached; goal = met }

  plan_is_passed : Plan (task w) (steps w l) → answer (plan_checks w l) ≡ none
  unfolding task
  plan_is_passed p = faultless_passes _ [] w l readable answer_nothing (runs_faultless (goal w) (initial w) 1 (steps w l) p.reached p.goal)

  refused_where : (t : Told) → answer (plan_checks w l) ≡ some t → (p : Place) → fault (goal w) (initial w) 1 (steps w l) ≡ p
      → (t.number ≡ 11) × FailsAt w l t.place
  refused_where t h None e = absurd (some-ne-none t (sym h ∙ faultless_passes _ [] w l readable answer_nothing e))
  refused_where t h (Some k) e =
      let same : told_refusal (NotAPlan k) ≡ t = some-injective _ _ (sym (fault_answers _ [] w l readable answer_nothing k e) ∙ h) in
      rw (← same) (refl, rw (← length-map l (action w)) (fault_told (goal w) (initial w) (steps w l) k e))

  failing_fault : (k : ℕ) → FailsAt w l k → fault (goal w) (initial w) 1 (steps w l) ≡ Some k
  failing_fault k (inl stuck) =
      let here : 1 + length stuck.earlier ≡ k = omega (arith, stuck.position) in
      rw here at (stuck_fault (goal w) (initial w) 1 (steps w l) stuck)
  failing_fault k (inr (past, unmet)) =
      let here : 1 + length (steps w l) ≡ k = omega (arith, length-map l (action w)) in
      rw here at (unmet_fault (goal w) (initial w) 1 (steps w l) unmet)

  failing_refused : (t : Told) → t.number ≡ 11 → FailsAt w l t.place → answer (plan_checks w l) ≡ some t
  failing_refused t number fails =
      fault_answers _ [] w l readable answer_nothing t.place (failing_fault t.place fails) ∙ ap some (told_parts t 11 (sym number))

  ends : end_state w l ≡ final (initial w) (steps w l) ++ replicate (limits.variables - variables w) 0
  ends =
      let kept : length (final (initial w) (steps w l)) ≡ length (initial w) = final_length (initial w) (steps w l) in
      let few : length (initial w) ≤ limits.variables = few_variables w readable.accepted in
      let all : length (final (initial w) (steps w l)) ≡ variables w = kept ∙ initial_length w in
      array_parts (final (initial w) (steps w l)) (omega arith) ∙ rw all

  pub plan_theorem : ToldTruly w l
  plan_theorem =
      record {
        passed_plan = passed_is_plan;
        plan_passes = plan_is_passed;
        first_failing = λ t. (λ h. refused_where t h _ refl, λ (number, fails). failing_refused t number fails);
        reached = λ h. (faultless_runs (goal w) (initial w) 1 (steps w l) (no_fault h)).0;
        end = ends;
      }

-- of all words and all lists, just the plans that can be read pass
pub passes_exactly : (w l : List ℕ) → answer (plan_checks w l) ≡ none ↔ (Readable w l × Plan (task w) (steps w l))
passes_exactly w l = (λ h. passed (passed_readable _ [] w l h) h, λ (readable, plan). plan_is_passed w l readable plan)
  where
    passed : Readable w l → answer (plan_checks w l) ≡ none → Readable w l × Plan (task w) (steps w l)
    passed readable h = (readable, passed_is_plan w l readable h)
