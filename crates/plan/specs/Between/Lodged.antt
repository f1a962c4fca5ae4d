-- The check of a list within a service that asks something besides. Assumes nothing.
use Rattle.std.specs.Prelude.{ℕ, ◌≡◌, List}
use Rattle.refusal.specs.Refusal.{Verdict}
use Rattle.refusal.specs.Refusal.{told}
use Rattle.refusal.specs.Check.{Check, answer}
use Rattle.plan.specs.Checked.{Answer}
use Rattle.plan.specs.Checked.{lodged_checks, Checks}

-- the check of a list of at most so many steps, for whatever a service asks besides, of which it has the verdict
pub record ChecksLodged (limit : ℕ) (w l : List ℕ) (verdict : Verdict) (given : Answer) (state : List ℕ) : Type 0 where
  pub checked : (besides : List Check) → told verdict ≡ answer besides
      → Checks (lodged_checks limit besides w l) w l given state
