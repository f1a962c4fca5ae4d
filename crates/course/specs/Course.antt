-- The states along a plan (document 01: list), as far as its steps can be done in turn. Assumes nothing.
use Rattle.std.specs.Prelude.{ℕ, ◌+◌, ◌≡◌, length, take}
use Rattle.std.proofs.Math.Option.{Option, none, some}
use mathlib.Core.List.{List, [], ◌∷◌, flatten}
use Rattle.std.proofs.lemmas.List.Edits.{sets}
use Rattle.refusal.specs.Refusal.{Verdict}
use Rattle.refusal.specs.Refusal.{told}
use Rattle.refusal.specs.Check.{Check, answer, unless_refused}
use Rattle.sas.specs.Task.{State, Action}
use Rattle.sas.specs.Plan.{run}
use Rattle.sheet.specs.Decode.{initial, table}
use Rattle.plan.specs.Limits.{most_steps}
use Rattle.plan.specs.Valid.{steps}
use Rattle.plan.specs.Checked.{read_checks}

-- those states that are defined
unfoldable pub defined : List (Option State) → List State
defined [] = []
defined (none ∷ ss) = defined ss
defined (some s ∷ ss) = s ∷ defined ss

-- the states along a sequence of n actions: for i from 0 to n γ(s, ⟨a₁, …, aᵢ⟩), where it is defined
unfoldable pub states_along : State → List Action → List State
states_along s p = defined (table (λ i. run s (take i p)) 0 (length p + 1))

-- those along the list l of the sheet w
abbrev pub course : List ℕ → List ℕ → List State
course w l = states_along (initial w) (steps w l)

-- the checks: those of what is read, 1 to 9. A list that is not valid is no refusal: its states end before its first
-- step that can't be done.
abbrev pub course_checks : List ℕ → List ℕ → List Check
course_checks w l = read_checks most_steps w l

-- the service: the states over `before`, one behind the other, and their number; a refusal leaves every word
pub record Courses (w l : List ℕ) (verdict : Verdict) (count : ℕ) (before after : List ℕ) : Type 0 where
  pub refusal : told verdict ≡ answer (course_checks w l)
  pub counted : count ≡ unless_refused (answer (course_checks w l)) (length (course w l)) 0
  pub states : after ≡ unless_refused (answer (course_checks w l)) (sets before 0 (flatten (course w l))) before
