-- The refusal of a plan that is too long to be read, by what the task's own checks answer; and it is what the check of any plan with too many steps answers.
-- Assumes nothing.
use Rattle.std.specs.Prelude.{Err, Ok}
use Prim.Native.Nat.{ℕ, ◌<◌}
use mathlib.Core.Path.{◌≡◌, refl, sym, ◌∙◌}
use mathlib.Core.Option.{Option, none, some}
use mathlib.Core.List.{List, []}
use lib.ListN.{length}
use borrow.Author.Tests.{lt-ltb}
use Rattle.refusal.specs.declared.Refusal.{Refusal}
use Rattle.refusal.specs.declared.Refusal.TheVariants.{PlanLength}
use Rattle.refusal.specs.Refusal.{Told, told_refusal, told}
use Rattle.refusal.specs.Check.{answer}
use Rattle.refusal.proofs.CheckLaws.{answer_fires}
use Rattle.sheet.specs.Causes.{sheet_checks}
use Rattle.plan.specs.Limits.{most_steps}
use Rattle.plan.specs.Checked.{list_checks, plan_checks}
use Rattle.plan.proofs.PlanLaws.{sheet_answers, list_answers, read_answers}
use Rattle.program.specs.Long.{long_refusal}

module _ (w : List ℕ) where
  long_sheet : (t : Told) → answer (sheet_checks w) ≡ some t → long_refusal w ≡ t
  unfolding long_refusal
  long_sheet t e = rw (e, long_refusal)

  long_plan : answer (sheet_checks w) ≡ none → long_refusal w ≡ told_refusal (PlanLength most_steps)
  unfolding long_refusal
  long_plan e = rw (e, long_refusal)

  -- the task is refused, or passes
  pub long_refused : (r : Refusal) → told (Err r) ≡ answer (sheet_checks w) → long_refusal w ≡ told_refusal r
  long_refused r refuses = long_sheet (told_refusal r) (sym refuses)

  pub long_passed : told (Ok tt) ≡ answer (sheet_checks w) → long_refusal w ≡ told_refusal (PlanLength most_steps)
  long_passed passes = long_plan (sym passes)

  -- the check of a plan answers so wherever the plan has too many steps, whatever they are
  pub as_checked : (l : List ℕ) → most_steps < length l → answer (plan_checks w l) ≡ some (long_refusal w)
  unfolding list_checks
  as_checked l long = by_case (answer (sheet_checks w)) refl
    where
      by_case : (o : Option Told) → answer (sheet_checks w) ≡ o → answer (plan_checks w l) ≡ some (long_refusal w)
      by_case (some t) e = rw (long_sheet t e) (read_answers _ [] w l (sheet_answers most_steps w l e))
      by_case none e = rw (long_plan e) (read_answers _ [] w l (list_answers most_steps w l e ∙ answer_fires _ _ most_steps (rw (lt-ltb most_steps (length l) long))))
