-- What holds of a list that passes the checks of a service: it can be read, it is valid from the starting values, and its output has room. By the laws of the
-- checks of a list. Assumes nothing.
use Rattle.std.specs.Prelude.{Ok}
use Prim.Native.Nat.{ℕ, ◌≤◌}
use mathlib.Core.Path.{◌≡◌, sym, ◌∙◌, ap}
use mathlib.Core.Bool.{true}
use mathlib.Core.Option.{none}
use mathlib.Core.List.{List}
use lib.ListN.{length}
use borrow.Author.Tests.{ltb-false}
use Rattle.refusal.specs.Refusal.{Verdict}
use Rattle.refusal.specs.Refusal.{told}
use Rattle.refusal.specs.Check.{Check, answer}
use Rattle.refusal.proofs.PlaceLaws.{when_nowhere}
use Rattle.refusal.proofs.CheckLaws.{none_fires}
use Rattle.sas.specs.Plan.{Plan}
use Rattle.sheet.specs.Decode.{initial, goal, task}
use Rattle.plan.specs.Limits.{most_steps}
use Rattle.plan.specs.Valid.{steps}
use Rattle.plan.specs.Checked.{lodged_checks, told_answer}
use Rattle.plan.specs.Between.Lodged.{ChecksLodged}
use Rattle.plan.specs.Checked.{Answer}
use Rattle.tally.specs.declared.Tally.{Tally}
use Rattle.plan.proofs.PlanLaws.{passed_readable, besides_pass, plan_passes}
use Rattle.plan.proofs.PlanTheorem.{plan_theorem}
use Rattle.reduction.specs.Reduction.{valid}
use Rattle.reduction.proofs.ValidLaws.{plan_valid}
use Rattle.reduced.specs.Reduced.{room_checks, reduction_checks}

pub lodged_plan : (besides : List Check) (w l : List ℕ) → answer (lodged_checks most_steps besides w l) ≡ none → Plan (task w) (steps w l)
lodged_plan besides w l passed = (plan_theorem w l (passed_readable _ besides w l passed)).passed_plan (plan_passes _ besides w l passed)

pub lodged_valid : (besides : List Check) (w l : List ℕ) → answer (lodged_checks most_steps besides w l) ≡ none → valid (initial w) (goal w) (steps w l) ≡ true
unfolding task
lodged_valid besides w l passed = plan_valid (task w) (steps w l) (lodged_plan besides w l passed)

-- what the check of a list answers where its room is asked besides
module _ (w l : List ℕ) (room : ℕ) (v : Verdict) (given : Answer) (state : List ℕ) (asked : told v ≡ answer (room_checks (length l) room))
    (checks : ChecksLodged most_steps w l v given state) where
  pub room_checked : told_answer given ≡ answer (reduction_checks w l room)
  room_checked = (checks.checked (room_checks (length l) room) asked).refusal

  pub nothing_refused : (t : Tally) → given ≡ Ok t → answer (reduction_checks w l room) ≡ none
  nothing_refused t is = sym room_checked ∙ ap told_answer is

-- the output has room for the list
pub roomy : (w l : List ℕ) (room : ℕ) → answer (reduction_checks w l room) ≡ none → length l ≤ room
unfolding room_checks
roomy w l room passed = ltb-false room (length l) (when_nowhere _ (length l) (none_fires _ _ (besides_pass _ (room_checks (length l) room) w l passed)).0)
