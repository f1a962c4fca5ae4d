-- One step of a sheet that is known to be accepted. Assumes nothing.
use Rattle.std.specs.Prelude.{ℕ, ◌≡◌, List}
use Rattle.std.proofs.Math.Option.{none, some}
use Rattle.refusal.specs.Refusal.{Verdict}
use Rattle.refusal.specs.Refusal.{told}
use Rattle.refusal.specs.Check.{answer}
use Rattle.sas.specs.Plan.{apply}
use Rattle.sheet.specs.Decode.{action}
use Rattle.step.specs.Step.{own_checks}

-- the same where the sheet is known to be accepted, so that only the step's own checks are left
pub record Tries (w before : List ℕ) (a : ℕ) (verdict : Verdict) (after : List ℕ) : Type 0 where
  pub verdict_told : told verdict ≡ answer (own_checks w before a)
  pub state : after ≡ elim (answer (own_checks w before a)) [ none ↦ apply before (action w a) | some t ↦ before ]
