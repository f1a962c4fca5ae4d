-- What one step answers on each of its ways: an unknown action, a precondition that fails, a step that is done; and how the sheet's checks come before.
-- What the code calls is a variable here, with what is known of it as a premise. Assumes nothing.
use Rattle.std.specs.Prelude.{Err, Ok}
use Prim.Native.Nat.{ℕ, ◌≤◌, ◌<◌}
use mathlib.Core.Path.{◌≡◌, refl, sym, ◌∙◌, ap}
use mathlib.Core.Bool.{Bool, true, false, not}
use mathlib.Core.Option.{none, some}
use mathlib.Core.List.{List, [], ◌∷◌}
use borrow.Author.Tests.{le-leb, lt-leb}
use Rattle.refusal.specs.declared.Refusal.{Refusal}
use Rattle.refusal.specs.declared.Refusal.TheVariants.{UnknownAction, NotAPlan}
use Rattle.refusal.specs.Refusal.{Verdict}
use Rattle.refusal.specs.Place.{when}
use Rattle.refusal.specs.Refusal.{Told, told_refusal, told}
use Rattle.refusal.specs.Check.{answer}
use Rattle.refusal.proofs.CheckLaws.{answer_fires, answer_passes, answer_first, answer_second}
use Rattle.sas.specs.Plan.{applicable}
use Rattle.sheet.specs.Layout.{actions}
use Rattle.sheet.specs.Decode.{action}
use Rattle.sheet.specs.Causes.{sheet_checks}
use Rattle.step.specs.Between.Advance.{Advances}
use Rattle.step.specs.Step.{own_checks, step_checks, state_after, Steps}
use Rattle.step.specs.Between.Tries.{Tries}

-- check 9 fires
own_unknown : (w s : List ℕ) (a : ℕ) → actions w ≤ a → answer (own_checks w s a) ≡ some (record { number = 9; place = 1 })
unfolding own_checks
own_unknown w s a h = answer_fires _ _ 1 (rw (le-leb (actions w) a h))

-- check 9 passes, and check 11 is left
own_known : (w s : List ℕ) (a : ℕ) → a < actions w → answer (own_checks w s a) ≡ answer (record { number = 11; fires = when (not (applicable s (action w a))) 1 } ∷ [])
unfolding own_checks
own_known w s a h = answer_passes _ _ (rw (lt-leb (actions w) a h))

-- check 11 fires
own_fails : (w s : List ℕ) (a : ℕ) → a < actions w → applicable s (action w a) ≡ false → answer (own_checks w s a) ≡ some (record { number = 11; place = 1 })
own_fails w s a h e = own_known w s a h ∙ answer_fires _ _ 1 (rw e)

-- neither check fires
own_passes : (w s : List ℕ) (a : ℕ) → a < actions w → applicable s (action w a) ≡ true → answer (own_checks w s a) ≡ none
unfolding answer
own_passes w s a h e = own_known w s a h ∙ answer_passes (record { number = 11; fires = when (not (applicable s (action w a))) 1 }) [] (rw e)

-- a refusal leaves the state
refused : (w s : List ℕ) (a : ℕ) (v : Verdict) (t : Told) → told v ≡ some t → answer (own_checks w s a) ≡ some t → Tries w s a v s
refused w s a v t e e' = record { verdict_told = e ∙ sym e'; state = rw e' }

-- an unknown action
pub tries_unknown : (w s : List ℕ) (a : ℕ) (n : ℕ) → n ≡ actions w → n ≤ a → Tries w s a (Err (UnknownAction 1)) s
tries_unknown w s a n e h = refused w s a _ _ refl (own_unknown w s a (rw e at h))

-- a step that can't be done
pub tries_fails : (w s after : List ℕ) (a n : ℕ) (done : Bool) → n ≡ actions w → a < n → Advances w s a done after → done ≡ false → Tries w s a (Err (NotAPlan 1)) s
tries_fails w s after a n done e h advances is = refused w s a _ _ refl (own_fails w s a (rw e at h) (sym advances.applied ∙ is))

-- a step that is done
pub tries_done : (w s after : List ℕ) (a n : ℕ) (done : Bool) → n ≡ actions w → a < n → Advances w s a done after → done ≡ true → Tries w s a (Ok tt) after
tries_done w s after a n done e h advances is =
    let passes : answer (own_checks w s a) ≡ none = own_passes w s a (rw e at h) (sym advances.applied ∙ is) in
    record { verdict_told = sym passes; state = rw passes (advances.state ∙ rw is) }

-- a sheet that is refused
pub steps_refused : (w s : List ℕ) (a : ℕ) (v : Verdict) (r : Refusal) → told v ≡ answer (sheet_checks w) → v ≡ Err r → Steps w s a (Err r) s
unfolding step_checks state_after
steps_refused w s a v r e is =
    let refuses : answer (step_checks w s a) ≡ some (told_refusal r) = answer_first (sheet_checks w) (own_checks w s a) (sym e ∙ ap told is) in
    record { verdict_told = sym refuses; state = rw (refuses, state_after) }

-- a sheet that is accepted, and what the step's own checks say
pub steps_tried : (w s after : List ℕ) (a : ℕ) (v v' : Verdict) → told v ≡ answer (sheet_checks w) → v ≡ Ok tt → Tries w s a v' after → Steps w s a v' after
unfolding step_checks state_after
steps_tried w s after a v v' e is tried =
    let accepted : answer (step_checks w s a) ≡ answer (own_checks w s a) = answer_second (sheet_checks w) (own_checks w s a) (sym e ∙ ap told is) in
    record { verdict_told = tried.verdict_told ∙ sym accepted; state = rw (accepted, state_after) tried.state }
