-- A trial from the state before its step, on the flags that the code holds, is the trial of the definitions, by `trial_from_before`; and the state before the
-- next position, whether the step here is struck by the trial, was struck before, or is done. Assumes nothing.
use Prim.Native.Nat.{ℕ, suc, ◌+◌, ◌-◌, ◌<◌}
use native.Mathlib.Numerals.{add-one}
use native.Mathlib.Omega.{arith}
use mathlib.Core.Path.{◌≡◌, sym, ◌∙◌, ap}
use mathlib.Core.Bool.{Bool, true, false, and-false}
use mathlib.Core.Option.{none, some, some-injective}
use mathlib.Core.List.{List, ◌∷◌, ◌++◌, append_assoc}
use lib.ListN.{length, get_or, set, take, drop, replicate, length-drop, length-map, length-append, length-replicate, length-set}
use lib.Seq.{length-take-le, take-take, get_or-take, take_at, get_or_at, drop-append-le}
use Rattle.sas.specs.Plan.{satisfies, applicable}
use Rattle.tally.specs.declared.Tally.{Tally}
use Rattle.step.specs.Between.Advance.{Advances}
use Rattle.sheet.specs.Decode.{initial, goal, action}
use Rattle.plan.specs.Limits.{most_steps}
use Rattle.plan.specs.Valid.{steps}
use Rattle.plan.proofs.PlanLaws.{steps_at}
use Rattle.plan.proofs.FaultLaws.{steps_drop}
use Rattle.reduction.specs.Reduction.{Reduction, Before}
use Rattle.reduction.specs.Between.Elimination.{trial}
use Rattle.reduction.specs.Trials.{walk, after}
use Rattle.reduction.proofs.trials.TrialLaws.{FromBefore, trial_from_before, trial_succeeds, success_valid, walk_length}
use Rattle.reduction.proofs.minimal.BeforeLaws.{Passes, before_next, walk_past}
use Rattle.trial.specs.Between.Trial.{MakesTrial}
use Rattle.reduced.specs.Between.Held.{mask}
use Rattle.trial.specs.Between.Current.{Current}

module _ (w l : List ℕ) (flags : Reduction) (current : Current w l flags) where
  pub mask_length : length (mask l flags) ≡ length l
  mask_length = length-take-le (length l) flags (omega (arith, current.few, current.long))

  fits : length (mask l flags) ≡ length (steps w l)
  fits = mask_length ∙ sym (length-map l (action w))

  pub mask_flag : (i : ℕ) → i < length l → get_or (mask l flags) i false ≡ get_or flags i false
  mask_flag i h = get_or-take (length l) flags i false h

  module _ (i : ℕ) (values : List ℕ) (here : i < length l) (before : Before (initial w) (steps w l) (mask l flags) i values) where
    from : FromBefore (initial w) (steps w l) (mask l flags) i
    from = trial_from_before (initial w) (goal w) (steps w l) (mask l flags) i fits current.valid_left (omega (arith, mask_length))

    same_state : from.before ≡ values
    same_state = some-injective _ _ (sym from.reached ∙ before)

    -- the flags behind index i: those of the reduction, and none up past its end
    behind : drop (i + 1) flags ≡ drop (i + 1) (mask l flags) ++ replicate (most_steps - length l) false
    behind = ap (drop (i + 1)) current.none_past ∙ drop-append-le (i + 1) (mask l flags) _ (omega (arith, mask_length))

    as_long : length (drop (i + 1) (mask l flags)) ≡ length (steps w (drop (i + 1) l))
    as_long = simp (length-drop, length-map, mask_length)

    walked_past : (walk values (steps w (drop (i + 1) l)) (drop (i + 1) flags) ≡ walk values (steps w (drop (i + 1) l)) (drop (i + 1) (mask l flags)) ++ replicate (most_steps - length l) false)
        × (after values (steps w (drop (i + 1) l)) (drop (i + 1) flags) ≡ after values (steps w (drop (i + 1) l)) (drop (i + 1) (mask l flags)))
    walked_past = rw behind (walk_past values (steps w (drop (i + 1) l)) (drop (i + 1) (mask l flags)) _ as_long)

    module _ (met : Bool) (left : Reduction) (struck : Tally) (tries : MakesTrial w l i flags values met left struck) where
      -- what the trial leaves is what the definitions' walk leaves, and no flag is up past it
      left_flags : left ≡ walk (initial w) (steps w l) (set (mask l flags) i false) ++ replicate (most_steps - length l) false
      left_flags =
          tries.flags
          ∙ rw (walked_past.0, from.walked, same_state, ← take-take i (length l) flags (omega arith), steps_drop w l (i + 1), add-one)
          (sym (append_assoc (take i (mask l flags)) (false ∷ walk values (drop (suc i) (steps w l)) (drop (suc i) (mask l flags))) _))

      met_goal : met ≡ satisfies (after (initial w) (steps w l) (set (mask l flags) i false)) (goal w)
      met_goal = tries.goal_met ∙ rw (walked_past.1, from.end, same_state, steps_drop w l (i + 1), add-one)

      pub trial_met : get_or flags i false ≡ true → met ≡ true
          → trial (initial w) (goal w) (steps w l) (mask l flags) i ≡ some (walk (initial w) (steps w l) (set (mask l flags) i false))
      unfolding trial
      trial_met up is = rw (mask_flag i here, up, ← met_goal, is)

      pub trial_unmet : met ≡ false → trial (initial w) (goal w) (steps w l) (mask l flags) i ≡ none
      unfolding trial
      trial_unmet is = rw (← met_goal, is, and-false)

      pub left_length : length (walk (initial w) (steps w l) (set (mask l flags) i false)) ≡ length l
      left_length = walk_length (initial w) (steps w l) (set (mask l flags) i false) ∙ length-set (mask l flags) i false ∙ mask_length

      -- the reduction that a trial leaves
      pub left_mask : mask l left ≡ walk (initial w) (steps w l) (set (mask l flags) i false)
      left_mask = rw left_flags (take_at _ _ (length l) left_length)

      pub left_current : get_or flags i false ≡ true → met ≡ true → Current w l left
      left_current up is =
          record {
            few = current.few;
            long = rw left_flags (simp (length-append, length-replicate, left_length) (omega (arith, current.few)));
            none_past = left_flags ∙ rw left_mask;
            valid_left = rw left_mask (success_valid (trial_succeeds (initial w) (goal w) (steps w l) (mask l flags) i (trial_met up is)));
          }

      -- before index i it is the reduction that was tried, and at i it strikes
      front : length (take i (mask l flags)) ≡ i
      front = length-take-le i (mask l flags) (omega (arith, mask_length))

      left_before : Before (initial w) (steps w l) (mask l left) i values
      left_before = rw (left_mask, from.walked, take_at (take i (mask l flags)) _ i front) before

      left_struck : get_or (mask l left) i false ≡ false
      left_struck = rw (left_mask, from.walked) (get_or_at (take i (mask l flags)) false _ false i front)

      -- a trial that succeeds has struck the step here
      pub left_next : get_or flags i false ≡ true → met ≡ true → Before (initial w) (steps w l) (mask l left) (i + 1) values
      left_next up is =
          let now = left_current up is in
          let passes = before_next (initial w) (goal w) (steps w l) (mask l left) i (rw left_mask (left_length ∙ sym (length-map l (action w)))) now.valid_left (rw left_mask (omega (arith, left_length))) left_before in
          rw add-one (passes.struck_next left_struck)

    passes : Passes (initial w) (steps w l) (mask l flags) i values
    passes = before_next (initial w) (goal w) (steps w l) (mask l flags) i fits current.valid_left (omega (arith, mask_length)) before

    -- a step that was struck before is passed over
    pub unkept : get_or flags i false ≡ false → get_or (mask l flags) i false ≡ false
    unkept down = mask_flag i here ∙ down

    pub passed_over : get_or flags i false ≡ false → Before (initial w) (steps w l) (mask l flags) (i + 1) values
    passed_over down = rw add-one (passes.struck_next (unkept down))

    -- a kept step is done
    pub advanced : (done : Bool) (values' : List ℕ) → get_or flags i false ≡ true → Advances w values (get_or l i 0) done values' → Before (initial w) (steps w l) (mask l flags) (i + 1) values'
    advanced done values' up advances =
        let raised : get_or (mask l flags) i false ≡ true = mask_flag i here ∙ up in
        let able : applicable values (action w (get_or l i 0)) ≡ true = rw (steps_at w l i here) at (passes.able raised) in
        rw (advances.state, advances.applied, able, add-one, ← steps_at w l i here) (passes.kept_next raised)
