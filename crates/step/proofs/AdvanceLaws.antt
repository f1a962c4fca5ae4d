-- An action is done just where the test of its precondition finds no failing fact, and so with the goal. What the code calls is a variable here, with what is
-- known of it as a premise; at which fact a test stopped is not used. Assumes nothing.
use Prim.Native.Nat.{ℕ, ◌≤◌, ◌<◌}
use native.Mathlib.Omega.{arith}
use mathlib.Core.Path.{◌≡◌, refl, sym, ◌∙◌, ap}
use mathlib.Core.Bool.{Bool, true, false, not}
use mathlib.Core.List.{List, ◌++◌}
use lib.ListN.{length, take, drop}
use lib.Seq.{length-take-le, take_all}
use Rattle.std.specs.Prelude.{Option, is_some, is_none}
use Rattle.sas.specs.Plan.{satisfies, applicable, assign, acting}
use Rattle.sas.proofs.ActionLaws.{apply_length, applicable_needed}
use Rattle.sheet.specs.declared.group.Group.{Group}
use Rattle.sheet.specs.declared.effects.Effects.{Effects}
use Rattle.sheet.specs.Decode.{goal, action}
use Rattle.sheet.specs.Between.Group.{goal_group, needed_group, facts_in}
use Rattle.sheet.specs.Between.Effects.{effects_of, effects_in}
use Rattle.sheet.proofs.GroupLaws.{goal_facts, needed_facts}
use Rattle.sheet.proofs.EffectLaws.{effects_applied}
use Rattle.step.specs.State.{state_size, front}
use Rattle.step.specs.Between.Failing.{Tests}
use Rattle.step.specs.Between.Advance.{Advances}
use Rattle.step.proofs.FailingLaws.{is_none_told}
use Rattle.step.proofs.StateLaws.{front_laid}

module _ (w s : List ℕ) (a : ℕ) (g : Group) (f : Option ℕ) (group : g ≡ needed_group w a) (tested : Tests s (facts_in w g) f) where
  held : is_none f ≡ applicable s (action w a)
  held = tested.held ∙ ap (satisfies s) (ap (facts_in w) group ∙ needed_facts w a) ∙ sym (applicable_needed s (action w a))

  pub advances_not : is_some f ≡ true → Advances w s a false s
  advances_not e = record { applied = ap not (sym e) ∙ held; state = refl }

  pub advances_done : (h : Effects) (after : List ℕ) → is_some f ≡ false → h ≡ effects_of w a → after ≡ assign s (acting s (effects_in w h)) → Advances w s a true after
  advances_done h after e effects writes =
      record { applied = ap not (sym e) ∙ held; state = writes ∙ rw effects (sym (effects_applied w a s)) }

module _ (w s : List ℕ) (g : Group) (f : Option ℕ) (group : g ≡ goal_group w) (tested : Tests s (facts_in w g) f) where
  pub goal_told : (b : Bool) → is_some f ≡ not b → b ≡ satisfies s (goal w)
  goal_told b e = sym (is_none_told f b e) ∙ tested.held ∙ ap (satisfies s) (ap (facts_in w) group ∙ goal_facts w)

-- an action keeps the number of values, done or not
advances_length : (w s after : List ℕ) (a : ℕ) (done : Bool) → Advances w s a done after → length after ≡ length s
advances_length w s after a true advances = ap length advances.state ∙ apply_length s (action w a)
advances_length w s after a false advances = ap length advances.state

pub part_length : (values : List ℕ) (n : ℕ) → n < length values → n ≡ length (take n values)
part_length values n h = sym (length-take-le n values (omega arith))

-- the state at the front of an array, lent as a part, or as the whole of what is no longer
module _ (w values : List ℕ) (n : ℕ) (fits : n ≡ state_size w) where
  module _ (part : n < length values) where
    pub advances_part : (a : ℕ) (done : Bool) (after : List ℕ) → Advances w (take n values) a done after
        → Advances w (front w values) a done (front w (after ++ drop n values))
    advances_part a done after advances =
        let kept : length after ≡ n = advances_length w (take n values) after a done advances ∙ sym (part_length values n part) in
        rw (front_laid w values after n fits kept, ← fits) advances

  module _ (whole : length values ≤ n) where
    all_front : (s : List ℕ) → length s ≡ length values → front w s ≡ s
    all_front s same = take_all (state_size w) s (omega arith)

    pub advances_whole : (a : ℕ) (done : Bool) (after : List ℕ) → Advances w values a done after → Advances w (front w values) a done (front w after)
    advances_whole a done after advances = rw (all_front values refl, all_front after (advances_length w values after a done advances)) advances
