-- Elimination along the flags that the code holds: before each index they are what the definitions have eliminated so far. Assumes nothing.
use Prim.Native.Nat.{ℕ, ◌+◌, ◌≤◌, ◌<◌}
use native.Mathlib.Numerals.{add-one}
use native.Mathlib.Omega.{arith}
use mathlib.Core.Path.{◌≡◌, ◌∙◌}
use mathlib.Core.Bool.{Bool, true, false}
use mathlib.Core.List.{List}
use lib.ListN.{length, get_or, replicate, length-map, length-append, length-replicate}
use lib.Seq.{take_at}
use Rattle.tally.specs.declared.Tally.{Tally}
use Rattle.step.specs.Between.Advance.{Advances}
use Rattle.sheet.specs.Decode.{initial, goal, action}
use Rattle.plan.specs.Limits.{most_steps}
use Rattle.plan.specs.Valid.{steps}
use Rattle.reduction.specs.Reduction.{Reduction, whole, valid, Before}
use Rattle.reduction.specs.Between.Elimination.{eliminated, eliminate}
use Rattle.reduction.proofs.ReductionLaws.{kept_whole}
use Rattle.reduction.proofs.trials.TrialLaws.{unkept_fails}
use Rattle.reduction.proofs.minimal.BeforeLaws.{before_first}
use Rattle.reduced.specs.Between.Held.{mask, flags_of, none_struck}
use Rattle.reduced.proofs.HeldLaws.{all_held}
use Rattle.trial.specs.Between.Trial.{MakesTrial}
use Rattle.trial.specs.Between.Current.{Current}
use Rattle.trial.proofs.CurrentLaws.{trial_met, trial_unmet, left_mask, left_current, left_next, unkept, passed_over, advanced}
use Rattle.elimination.specs.Between.Turn.{Eliminates}

-- nothing struck: the flags of a plan that is valid
module _ (w l : List ℕ) (flags : Reduction) (few : length l ≤ most_steps) (is : flags ≡ none_struck (length l)) where
  whole_held : flags ≡ flags_of l (whole l)
  whole_held = all_held l flags few is

  pub all_mask : mask l flags ≡ whole (steps w l)
  all_mask = rw (whole_held, length-map l (action w)) (take_at (replicate (length l) true) _ (length l) (length-replicate (length l) true))

  pub all_current : valid (initial w) (goal w) (steps w l) ≡ true → Current w l flags
  all_current v =
      record {
        few = few;
        long = rw whole_held (simp (length-append, length-replicate) (omega arith));
        none_past = whole_held ∙ rw (all_mask, length-map l (action w));
        valid_left = rw (all_mask, kept_whole (steps w l)) v;
      }

-- elimination's turn
module _ (w l : List ℕ) (flags : Reduction) (current : Current w l flags) (i : ℕ) (values : List ℕ) (here : i < length l) (before : Before (initial w) (steps w l) (mask l flags) i values) where
  -- at a kept step whose trial succeeds
  pub eliminates_struck : (met : Bool) (left : Reduction) (struck : Tally) → MakesTrial w l i flags values met left struck → get_or flags i false ≡ true → met ≡ true → Eliminates w l i flags left values
  eliminates_struck met left struck tries up is =
      record {
        current = left_current w l flags current i values here before met left struck tries up is;
        struck = left_mask w l flags current i values here before met left struck tries ∙ rw (trial_met w l flags current i values here before met left struck tries up is);
        before = left_next w l flags current i values here before met left struck tries up is;
      }

  -- at one whose trial fails
  pub eliminates_done : (met done : Bool) (left : Reduction) (struck : Tally) (values' : List ℕ) → get_or flags i false ≡ true → MakesTrial w l i flags values met left struck → met ≡ false
      → Advances w values (get_or l i 0) done values' → Eliminates w l i flags flags values'
  eliminates_done met done left struck values' up tries is advances =
      record {
        current = current;
        struck = rw (trial_unmet w l flags current i values here before met left struck tries is);
        before = advanced w l flags current i values here before done values' up advances;
      }

  -- at a step that was struck before
  pub eliminates_nothing : get_or flags i false ≡ false → Eliminates w l i flags flags values
  eliminates_nothing down =
      record {
        current = current;
        struck = rw (unkept_fails (initial w) (goal w) (steps w l) (mask l flags) i (unkept w l flags current i values here before down));
        before = passed_over w l flags current i values here before down;
      }

-- the flags and the state before index i
pub record Eliminating (w l : List ℕ) (i : ℕ) (flags : Reduction) (values : List ℕ) : Type 0 where
  pub within : i ≤ length l
  pub current : Current w l flags
  pub so_far : mask l flags ≡ eliminated (initial w) (goal w) (steps w l) i
  pub before : Before (initial w) (steps w l) (mask l flags) i values

pub eliminating_start : (w l : List ℕ) (flags : Reduction) (values : List ℕ) → length l ≤ most_steps → valid (initial w) (goal w) (steps w l) ≡ true
    → flags ≡ none_struck (length l) → values ≡ initial w → Eliminating w l 0 flags values
unfolding eliminated
eliminating_start w l flags values few v is starts =
    record { within = omega arith; current = all_current w l flags few is v; so_far = all_mask w l flags few is; before = rw starts (before_first (initial w) (steps w l) (mask l flags)) }

pub eliminating_more : (w l : List ℕ) (i : ℕ) (flags after : Reduction) (values next : List ℕ) → Eliminating w l i flags values → i < length l → Eliminates w l i flags after next
    → Eliminating w l (i + 1) after next
unfolding eliminated
eliminating_more w l i flags after values next so here turn =
    record { within = omega arith; current = turn.current; so_far = turn.struck ∙ rw (so.so_far, add-one); before = turn.before }

pub eliminating_end : (w l : List ℕ) (i : ℕ) (flags : Reduction) (values : List ℕ) → Eliminating w l i flags values → length l ≤ i
    → flags ≡ flags_of l (eliminate (initial w) (goal w) (steps w l))
unfolding eliminate
eliminating_end w l i flags values so past =
    let all : length (steps w l) ≡ i = length-map l (action w) ∙ omega (arith, so.within) in
    so.current.none_past ∙ rw (so.so_far, ← all)
