-- The state after one step, in document 01's words ("Doing a step, and a valid list") and not the code's: a refused step leaves it; a step that is done gives each
-- variable of an effect that acts the value named and keeps the others. A step that is done can be done and is one of an accepted task, whose effects don't
-- conflict and are of known variables; the rest is the laws of actions. Assumes nothing.
use Prim.Native.Nat.{ℕ, ◌≤◌, ◌<◌}
use native.Mathlib.Omega.{arith}
use mathlib.Core.Path.{◌≡◌, refl, sym, ◌∙◌, ap}
use mathlib.Core.Logic.{◌≢◌}
use mathlib.Core.Bool.{true}
use mathlib.Core.Option.{Option, none, some}
use mathlib.Core.List.{List}
use lib.ListN.{length, get_or}
use borrow.Author.Tests.{leb-false, not-false}
use Rattle.refusal.specs.Refusal.{Verdict}
use Rattle.refusal.specs.Refusal.{Told, told}
use Rattle.refusal.specs.Check.{answer}
use Rattle.refusal.proofs.PlaceLaws.{when_nowhere}
use Rattle.refusal.proofs.CheckLaws.{none_fires, answer_second, first_none}
use Rattle.sas.specs.Task.{Fact}
use Rattle.sas.specs.Plan.{applicable, apply}
use Rattle.sas.specs.Between.WellFormed.{ActionFormed}
use Rattle.sas.proofs.FactLaws.{holds_value}
use Rattle.sas.proofs.ActionLaws.{apply_length, apply_unacting, acting_holds}
use Rattle.sas.proofs.EffectLaws.{acting_written}
use Rattle.sheet.specs.Layout.{variables, actions}
use Rattle.sheet.specs.Decode.{domains, action, task}
use Rattle.sheet.specs.Causes.{sheet_checks, Accepted}
use Rattle.sheet.proofs.Accepted.{domains_length, action_known, accepted_well_formed}
use Rattle.step.specs.Step.{own_checks, step_checks, state_after, Steps, acts, After}

module _ (w s : List ℕ) (a : ℕ) where
  refused_state : (t : Told) → answer (step_checks w s a) ≡ some t → state_after w s a ≡ s
  unfolding state_after
  refused_state t e = rw (e, state_after)

  done_state : answer (step_checks w s a) ≡ none → state_after w s a ≡ apply s (action w a)
  unfolding state_after
  done_state e = rw (e, state_after)

  -- a step that is done is one of an accepted task
  done_accepted : answer (step_checks w s a) ≡ none → Accepted w
  unfolding step_checks
  done_accepted e = first_none (sheet_checks w) (own_checks w s a) _ e refl

  -- and of a known action
  done_known : answer (step_checks w s a) ≡ none → a < actions w
  unfolding step_checks own_checks
  done_known e = leb-false _ _ (when_nowhere _ 1 (none_fires _ _ (sym (answer_second (sheet_checks w) (own_checks w s a) (done_accepted e)) ∙ e)).0)

  done_formed : answer (step_checks w s a) ≡ none → ActionFormed (domains w) (action w a)
  unfolding task
  done_formed e = (accepted_well_formed w (done_accepted e)).actions (action w a) (action_known w a (done_known e))

  -- and can be done
  done_applicable : answer (step_checks w s a) ≡ none → applicable s (action w a) ≡ true
  unfolding step_checks own_checks
  done_applicable e =
      let own = sym (answer_second (sheet_checks w) (own_checks w s a) (done_accepted e)) ∙ e in
      not-false _ (when_nowhere _ 1 (none_fires _ _ (none_fires _ _ own).1).0)

  other_kept : (v : ℕ) (t : Option Told) → answer (step_checks w s a) ≡ t → (answer (step_checks w s a) ≡ none → (f : Fact) → acts s (action w a) f → f.variable ≢ v)
      → get_or (state_after w s a) v 0 ≡ get_or s v 0
  other_kept v none e h = rw (done_state e) (apply_unacting s (action w a) v (h e))
  other_kept v (some t) e h = rw (refused_state t e)

  past_unnamed : (v : ℕ) → variables w ≤ v → answer (step_checks w s a) ≡ none → (f : Fact) → acts s (action w a) f → f.variable ≢ v
  past_unnamed v h e f m same = omega (arith, domains_length w, ((done_formed e).known f (acting_written s (action w a) m)).variable)

  length_kept : (t : Option Told) → answer (step_checks w s a) ≡ t → length (state_after w s a) ≡ length s
  length_kept none e = ap length (done_state e) ∙ apply_length s (action w a)
  length_kept (some t) e = ap length (refused_state t e)

told_state : (w s : List ℕ) (a : ℕ) → After w s a (answer (step_checks w s a)) (state_after w s a)
told_state w s a = record {
  refused = refused_state w s a;
  named = λ e f m below. rw (done_state w s a e) (holds_value _ f (acting_holds (action w a) s (done_formed w s a e) (done_applicable w s a e) m below));
  others = λ v h. other_kept w s a v _ refl (λ e. h);
  past = λ v h. other_kept w s a v _ refl (past_unnamed w s a v h);
  complete = length_kept w s a _ refl;
}

pub step_theorem : (w before : List ℕ) (a : ℕ) (verdict : Verdict) (after : List ℕ) → Steps w before a verdict after → After w before a (told verdict) after
step_theorem w before a verdict after steps = rw (steps.verdict_told, steps.state) (told_state w before a)
