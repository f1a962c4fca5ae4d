-- The refusal of a plan that is too long to be read (document 01: "the sheet's checks follow, then refusal 8").
-- Assumes nothing.
use Rattle.std.specs.Prelude.{ℕ, List}
use Rattle.std.proofs.Math.Option.{none, some}
use Rattle.refusal.specs.declared.Refusal.TheVariants.{PlanLength}
use Rattle.refusal.specs.Refusal.{Told, told_refusal}
use Rattle.refusal.specs.Check.{answer}
use Rattle.sheet.specs.Causes.{sheet_checks}
use Rattle.plan.specs.Limits.{most_steps}

-- what is returned for the task w
unfoldable pub long_refusal : List ℕ → Told
long_refusal w = elim (answer (sheet_checks w)) [ some t ↦ t | none ↦ told_refusal (PlanLength most_steps) ]
