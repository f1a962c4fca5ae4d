-- What holds of the check of a list, in the words of SAS+. Assumes nothing.
use Rattle.std.specs.Prelude.{ℕ, ◌-◌, ◌≡◌, ◌↔◌, List, ◌++◌, replicate}
use Rattle.std.proofs.Math.Option.{none, some}
use Rattle.refusal.specs.Refusal.{Told}
use Rattle.refusal.specs.Check.{answer}
use Rattle.sas.specs.Plan.{run, Plan}
use Rattle.sheet.specs.Limits.{limits}
use Rattle.sheet.specs.Layout.{variables}
use Rattle.sheet.specs.Decode.{initial, task}
use Rattle.plan.specs.Valid.{steps}
use Rattle.plan.specs.Between.Fault.{final}
use Rattle.plan.specs.Checked.{plan_checks, end_state}
use Rattle.plan.specs.Valid.{FailsAt}

-- what holds of the check of a list l that can be read, of the sheet w
pub record ToldTruly (w l : List ℕ) : Type 0 where
  -- a list that passes is a plan
  pub passed_plan : answer (plan_checks w l) ≡ none → Plan (task w) (steps w l)
  -- and a plan passes
  pub plan_passes : Plan (task w) (steps w l) → answer (plan_checks w l) ≡ none
  -- another list is refused by number 11, at the place where it fails to be one
  pub first_failing : (t : Told) → answer (plan_checks w l) ≡ some t ↔ ((t.number ≡ 11) × FailsAt w l t.place)
  -- the final state of a list that passes is γ(I, ⟨a₁, …, aₙ⟩)
  pub reached : answer (plan_checks w l) ≡ none → run (initial w) (steps w l) ≡ some (final (initial w) (steps w l))
  -- the end state told is that state, with zeros past its variables
  pub end : end_state w l ≡ final (initial w) (steps w l) ++ replicate (limits.variables - variables w) 0
