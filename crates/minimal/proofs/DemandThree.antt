-- Demand 3: what the service of the minimal reduction answers and writes meets its one statement. The checks 1 to 11 pass a plan that can be read, and an
-- output with room for it, so that only the number of unmarked steps decides; the theorems of `reduction` do the rest. Nothing here is about the
-- code: its contract cites the same definitions. Assumes nothing.
use Prim.Native.Nat.{ℕ, ◌≤◌, ◌<◌}
use mathlib.Core.Path.{◌≡◌, refl, sym, ◌∙◌, subst}
use mathlib.Core.Bool.{Bool, true, false}
use mathlib.Core.Option.{Option, none, some, some-ne-none}
use mathlib.Core.List.{List, []}
use lib.ListN.{length}
use lib.Dec.{ltb}
use borrow.Author.Tests.{lt-ltb, le-ltb, ltb-true, ltb-false}
use Rattle.refusal.specs.Refusal.{Told}
use Rattle.refusal.specs.Check.{answer}
use Rattle.refusal.proofs.CheckLaws.{answer_fires, answer_passes, answer_nothing, answer_second}
use Rattle.sas.specs.Plan.{Plan}
use Rattle.reduction.specs.Reduction.{Reduction, meets, kept, valid}
use Rattle.reduction.proofs.ValidLaws.{plan_valid}
use Rattle.reduction.proofs.ReductionLaws.{reduced_plan}
use Rattle.reduction.proofs.marks.LandmarksKept.{landmark_kept}
use Rattle.reduction.specs.Minimal.{MinimalReduction}
use Rattle.reduction.proofs.minimal.MinimalTheorem.{minimal_found}
use Rattle.sheet.specs.Decode.{goal, initial, task}
use Rattle.plan.specs.Valid.{steps}
use Rattle.plan.specs.Checked.{plan_checks}
use Rattle.plan.proofs.PlanTheorem.{plan_theorem}
use Rattle.reduced.specs.Reduced.{room_checks, reduction_checks, Answers}
use Rattle.minimal.specs.Minimised.{Shortening}
use Rattle.minimal.specs.Minimised.{unmarked_checks, minimal_checks}
use Rattle.minimal.specs.Between.Computed.{MinimisesOf, minimal_of}
use Rattle.minimal.specs.Statement.{AreMarks, DemandThreeOf, DemandThree}
use Rattle.plan.specs.Readable.{Readable}
use Rattle.plan.proofs.PlanLaws.{steps_formed, faultless_passes, passes_faultless}
use Rattle.landmark.specs.Marks.{marks, unmarked}
use Rattle.landmark.proofs.MarkTheorem.{marks_theorem, marks_length}

module _ (w l : List ℕ) (readable : Readable w l) (plan : Plan (task w) (steps w l)) where
  pub valid_list : valid (initial w) (goal w) (steps w l) ≡ true
  unfolding task
  valid_list = plan_valid (task w) (steps w l) plan

  pub is_minimal : MinimalReduction (initial w) (goal w) (steps w l) (minimal_of w l)
  is_minimal = minimal_found (meets (goal w)) (initial w) (steps w l) valid_list

  pub plan_left : Plan (task w) (kept (minimal_of w l) (steps w l))
  unfolding task
  plan_left = reduced_plan (task w) (steps w l) (minimal_of w l) plan is_minimal.valid

  -- the checks 1 to 11 pass
  pub checks_pass : (room : ℕ) → length l ≤ room → answer (reduction_checks w l room) ≡ none
  unfolding room_checks
  checks_pass room roomy =
      let passes : answer (plan_checks w l) ≡ none = (plan_theorem w l readable).plan_passes plan in
      let fits_in : answer (room_checks (length l) room) ≡ none = answer_passes _ [] (rw (le-ltb room (length l) roomy)) ∙ answer_nothing in
      faultless_passes _ _ w l readable fits_in (passes_faultless _ [] w l readable answer_nothing passes)

  -- so only the number of unmarked steps decides
  module _ (limit room : ℕ) (roomy : length l ≤ room) where
    only_unmarked : answer (minimal_checks limit w l room) ≡ answer (unmarked_checks limit w l)
    unfolding minimal_checks
    only_unmarked = answer_second (reduction_checks w l room) _ (checks_pass room roomy)

    pub few_pass : unmarked w l ≤ limit → answer (minimal_checks limit w l room) ≡ none
    unfolding unmarked_checks
    few_pass h = only_unmarked ∙ answer_passes _ [] (rw (le-ltb limit (unmarked w l) h)) ∙ answer_nothing

    pub many_refused : limit < unmarked w l → answer (minimal_checks limit w l room) ≡ some (record { number = 12; place = unmarked w l })
    unfolding unmarked_checks
    many_refused h = only_unmarked ∙ answer_fires _ [] (unmarked w l) (rw (lt-ltb limit (unmarked w l) h))

    -- and tells by its outcome how many there are
    pub refused_many : (t : Told) → answer (minimal_checks limit w l room) ≡ some t → limit < unmarked w l
    refused_many t h = by_case (ltb limit (unmarked w l)) refl
      where
        by_case : (b : Bool) → ltb limit (unmarked w l) ≡ b → limit < unmarked w l
        by_case true e = ltb-true limit (unmarked w l) e
        by_case false e = absurd (some-ne-none t (sym h ∙ few_pass (ltb-false limit (unmarked w l) e)))

    pub passed_few : answer (minimal_checks limit w l room) ≡ none → unmarked w l ≤ limit
    passed_few h = by_case (ltb limit (unmarked w l)) refl
      where
        by_case : (b : Bool) → ltb limit (unmarked w l) ≡ b → unmarked w l ≤ limit
        by_case true e = absurd (some-ne-none _ (sym (many_refused (ltb-true limit (unmarked w l) e)) ∙ h))
        by_case false e = ltb-false limit (unmarked w l) e

pub are_marks : (w l : List ℕ) → AreMarks w l (marks w l)
are_marks w l = record { each_step = marks_length w l; marked = marks_theorem w l }

-- demand 3 of whoever tells what the checks answer, and the minimal reduction
pub demand_three_of : (limit : ℕ) (w l : List ℕ) (room : ℕ) (Tells : Option Told → Reduction → Type 0) → Readable w l → Plan (task w) (steps w l) → length l ≤ room
    → Tells (answer (minimal_checks limit w l room)) (minimal_of w l) → DemandThreeOf w l limit Tells
demand_three_of limit w l room Tells readable plan roomy told =
    record {
      marked_kept = λ m v i marked. landmark_kept (steps_formed w l readable.accepted readable.known) v marked;
      flagged = are_marks w l;
      left = minimal_of w l;
      minimal = is_minimal w l readable plan;
      plan_left = plan_left w l readable plan;
      answered = λ few. subst (λ t. Tells t (minimal_of w l)) (few_pass w l readable plan limit room roomy few) told;
      refused = λ many. subst (λ t. Tells t (minimal_of w l)) (many_refused w l readable plan limit room roomy many) told;
    }

pub demand_three : (limit : ℕ) (w l before : List ℕ) (r : Shortening) (after : List ℕ) → MinimisesOf limit w l before r after
    → DemandThree limit w l before r.answer r.mask.words after
demand_three limit w l before r after minimises readable plan roomy =
    demand_three_of limit w l (length before) (λ t m. Answers t w l m before r.answer r.mask.words after) readable plan roomy minimises.answers
