-- Document 01's own rule for marks ("Marks", from source document 001, propositions 3 and 4), which document 02's rule
-- replaces. No service goes by it: it stands here for the theorem that every step it marks is still marked
-- (`older_still_marked` of proofs/marks/OlderTheorem). Steps stand at indices from 0. Assumes nothing.
use Rattle.std.specs.Prelude.{ℕ, ◌<◌, ◌≡◌, ◌≢◌, Bool, false, length}
use mathlib.Core.List.{List, Memᴰ}
use Rattle.sas.specs.Task.{Fact, Assignment, Action}
use Rattle.sas.specs.Plan.{may_write, needs}
use Rattle.reduction.specs.Landmark.{step}

-- of the steps before index n, the one at i has f as an effect fact, and no other has
pub record SoleWriter (p : List Action) (n : ℕ) (f : Fact) (i : ℕ) : Type 0 where
  pub before : i < n
  pub writes : may_write (step p i) f
  pub alone : (k : ℕ) → k < n → k ≢ i → may_write (step p k) f → ⊥

-- "Step i is marked when it has an effect fact f that the starting values don't hold, and either f is a goal fact and
-- no other step of the list has f as an effect, or f is a precondition of a later marked step j and no other step
-- before j has it. Nothing else is marked." The starting values are told by the facts that they hold.
pub data OlderMarked (held : Fact → Bool) (goal : Assignment) (p : List Action) : ℕ → Type 0 where
  for_goal : {i : ℕ} {f : Fact} → held f ≡ false → SoleWriter p (length p) f i → Memᴰ f goal
      → OlderMarked held goal p i
  for_step : {i j : ℕ} {f : Fact} → held f ≡ false → SoleWriter p j f i → needs (step p j) f
      → OlderMarked held goal p j → OlderMarked held goal p i
