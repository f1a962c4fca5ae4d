-- The walk back along a list's positions: what each position needs, by list induction, and the supports raised from the end step on, by the cases of the loop
-- that does so. What is left of the walk makes of the flags what all of it makes of the first. It ends before the start step, which needs nothing.
-- What the code calls is a variable here, with what is known of it as a premise. Assumes nothing.
use Prim.Native.Nat.{ℕ, suc, ◌+◌, ◌-◌, ◌≤◌, ◌<◌}
use native.Mathlib.Numerals.{add-one}
use native.Mathlib.Omega.{arith}
use mathlib.Core.Path.{◌≡◌, refl, ◌∙◌}
use mathlib.Core.Bool.{Bool, true, false, cond}
use mathlib.Core.List.{List}
use lib.ListN.{length, get_or, length-map}
use Rattle.sas.specs.Plan.{needed}
use Rattle.reduction.specs.Reduction.{Reduction}
use Rattle.reduction.specs.Landmark.{step, framed}
use Rattle.reduction.proofs.marks.FrameLaws.{framed_step, framed_end}
use Rattle.sheet.specs.declared.group.Group.{Group}
use Rattle.sheet.specs.Decode.{initial, goal, action}
use Rattle.sheet.specs.Between.Group.{goal_group, needed_group, facts_in}
use Rattle.sheet.proofs.GroupLaws.{goal_facts, needed_facts}
use Rattle.plan.specs.Valid.{steps}
use Rattle.plan.proofs.PlanLaws.{steps_at}
use Rattle.landmark.specs.Between.Rows.{row_start, row_raised}
use Rattle.landmark.specs.Between.Passes.{framed_list, closed}

module _ (w l : List ℕ) (i : ℕ) (g : Group) where
  -- the position behind index i needs the facts of the step there
  pub needs_of_step : i < length l → g ≡ needed_group w (get_or l i 0) → facts_in w g ≡ needed (step (framed_list w l) (suc i))
  needs_of_step h group =
      rw (group, framed_step (initial w) (goal w) (steps w l) i (rw length-map h), steps_at w l i h) (needed_facts w (get_or l i 0))

  -- and the one behind the last step those of the goal
  pub needs_of_goal : i ≤ length l → length l ≤ i → g ≡ goal_group w → facts_in w g ≡ needed (step (framed_list w l) (suc i))
  unfolding needed
  needs_of_goal h h' group =
      let last : i ≡ length (steps w l) = omega (arith, length-map l (action w)) in
      rw (group, last, framed_end (initial w) (goal w) (steps w l)) (goal_facts w)

module _ (w l rows : List ℕ) (first : Reduction) where
  -- where the walk stands before position i, with the flags that it has there
  pub record Closing (i : ℕ) (flags : Reduction) : Type 0 where
    pub reached : i ≤ length l + 1
    pub whole : closed rows (framed_list w l) (suc i) flags ≡ closed rows (framed_list w l) (suc (suc (length l))) first

  pub closing_end : Closing (length l + 1) first
  closing_end = record { reached = omega arith; whole = rw (add-one (length l)) }

  module _ (i : ℕ) (flags : Reduction) (along : Closing i flags) where
    -- one position more to the front
    pub closing_more : (g : Group) (next : Reduction) → 0 < i → facts_in w g ≡ needed (step (framed_list w l) (suc (i - 1)))
        → next ≡ cond (get_or flags i false) (row_raised rows (row_start i) (facts_in w g) flags) flags → Closing (i - 1) next
    unfolding closed
    closing_more g next some_left group raises =
        let here : suc (i - 1) ≡ i = omega arith in
        record {
          reached = omega (arith, along.reached);
          whole = rw (raises, group, here) along.whole;
        }

    -- the walk has come to the start step
    pub closing_start : i ≤ 0 → flags ≡ closed rows (framed_list w l) (suc (suc (length l))) first
    unfolding closed framed needed row_raised
    closing_start none_left =
        let start : i ≡ 0 = omega arith in
        one (get_or flags 0 false) ∙ (rw start at along.whole)
      where
        one : (b : Bool) → flags ≡ cond b flags flags
        one true = refl
        one false = refl
