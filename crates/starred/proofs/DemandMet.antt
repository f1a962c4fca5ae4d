-- Demand 3 asks nothing that can't be had: its premises hold of sheet P, worked list 1 and every output of six words. So whoever has it has, of that list,
-- all that it promises, and the service's answer is document 01's, for there is just one minimal reduction. The check of the list passes, by computing, and `passes_exactly` tells what that means.
-- Assumes nothing.
use Prim.Native.Nat.{ℕ, ◌≤◌}
use native.Mathlib.Omega.{arith}
use mathlib.Core.Path.{◌≡◌, ◌∙◌}
use mathlib.Core.Option.{none}
use mathlib.Core.List.{List, [], ◌∷◌}
use lib.ListN.{length}
use lib.Seq.{sets}
use lib.Dec.{lit≤}
use Rattle.sas.specs.Plan.{holds, satisfies, applicable, assign, acting, apply, written, unconditional, written_always, needed, cost, Plan}
use Rattle.reduction.specs.Reduction.{kept, count}
use Rattle.reduction.specs.Between.Order.{lower}
use Rattle.reduction.specs.Between.Elimination.{better}
use Rattle.reduction.specs.Between.Wanted.{same_fact, has}
use Rattle.sas.specs.Conflict.{some_of}
use Rattle.reduction.specs.Landmark.{values_from, framed}
use Rattle.reduction.specs.Between.Landmarks.{sets_other, passed, trace, raised, round_to, rounds as mark_rounds, landmarks}
use Rattle.reduction.specs.Between.Found.{found, minimal}
use Rattle.mask.specs.Mask.{binary, words_of, mask_words}
use Rattle.landmark.specs.Marks.{marks}
use Rattle.sheet.specs.Decode.{table, facts, initial, goal, effects, action, task}
use Rattle.plan.specs.Checked.{Answer}
use Rattle.plan.specs.Readable.{Readable}
use Rattle.plan.specs.Valid.{steps}
use Rattle.plan.specs.Checked.{told_answer, told_tally}
use Rattle.plan.proofs.PlanTheorem.{passes_exactly}
use Rattle.reduction.proofs.minimal.MinimalTheorem.{minimal_once}
use Rattle.minimal.specs.Minimised.{most_unmarked}
use Rattle.minimal.specs.Between.Computed.{minimal_of}
use Rattle.minimal.specs.Statement.{DemandThreeOf, DemandThree}
use Rattle.reduced.specs.Reduced.{Answers}
use Rattle.minimal.proofs.DemandThree.{is_minimal}
use Rattle.starred.specs.Sheets.{sheet_p}
use Rattle.starred.specs.Rows.{list_1}
use Rattle.starred.proofs.Starred.{starred}

module _ (before : List ℕ) (six : length before ≡ 6) where
  pub premises_met : Readable sheet_p list_1 × Plan (task sheet_p) (steps sheet_p list_1) × (length list_1 ≤ length before)
  premises_met =
      let (readable, plan) = (passes_exactly sheet_p list_1).0 starred.0.1.0 in
      (readable, plan, omega arith)

  module _ (given : Answer) (mask after : List ℕ) (demand : DemandThree most_unmarked sheet_p list_1 before given mask after) where
    pub demand_three_met : DemandThreeOf sheet_p list_1 most_unmarked (λ t m. Answers t sheet_p list_1 m before given mask after)
    demand_three_met = let (readable, plan, roomy) = premises_met in demand readable plan roomy

    -- and so the service answers as document 01 says of worked list 2
    pub answer_met : (told_answer given ≡ none) × (told_tally given ≡ record { cost = 12; steps = 3 })
        × (mask ≡ 56 ∷ 0 ∷ 0 ∷ 0 ∷ []) × (after ≡ sets before 0 (0 ∷ 1 ∷ 2 ∷ []))
    unfolding table facts initial goal effects action holds satisfies applicable assign acting apply written unconditional written_always needed cost kept count lower better found minimal some_of same_fact has values_from framed sets_other passed trace raised round_to mark_rounds landmarks marks binary words_of mask_words
    answer_met =
        let (readable, plan, roomy) = premises_met in
        let answered : Answers none sheet_p list_1 demand_three_met.left before given mask after = demand_three_met.answered (lit≤ tt) in
        let only : demand_three_met.left ≡ minimal_of sheet_p list_1 = minimal_once (λ m v. v.fits) demand_three_met.minimal (is_minimal sheet_p list_1 readable plan) in
        (answered.refusal, answered.tally ∙ rw only, answered.told_by ∙ rw only, answered.output ∙ rw only)
