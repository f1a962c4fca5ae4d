-- What one step answers, and the state after it (document 01, "Doing a step, and a valid list"). Assumes nothing.
use Rattle.std.specs.Prelude.{ℕ, ◌≤◌, ◌<◌, ◌≡◌, ◌≢◌, not, length, get_or, leb}
use Rattle.std.proofs.Math.Option.{Option, none, some}
use mathlib.Core.List.{List, [], ◌∷◌, ◌++◌, Memᴰ}
use Rattle.refusal.specs.Refusal.{Verdict}
use Rattle.refusal.specs.Place.{when}
use Rattle.refusal.specs.Refusal.{Told, told}
use Rattle.refusal.specs.Check.{Check, answer}
use Rattle.sas.specs.Task.{Fact, Action}
use Rattle.sas.specs.Plan.{applicable, acting, apply}
use Rattle.sheet.specs.Layout.{variables, actions}
use Rattle.sheet.specs.Decode.{action}
use Rattle.sheet.specs.Causes.{sheet_checks}

-- a step's own checks: 9, an unknown action; 11, a step that can't be done; both at place 1
unfoldable pub own_checks : List ℕ → List ℕ → ℕ → List Check
own_checks w s a =
    record { number = 9; fires = when (leb (actions w) a) 1 }
    ∷ record { number = 11; fires = when (not (applicable s (action w a))) 1 }
    ∷ []

-- the checks of one step: the sheet's, then its own
unfoldable pub step_checks : List ℕ → List ℕ → ℕ → List Check
step_checks w s a = sheet_checks w ++ own_checks w s a

-- the state after a step: each variable of an effect that acts has the value named; after a refusal, the state as it
-- was
unfoldable pub state_after : List ℕ → List ℕ → ℕ → List ℕ
state_after w s a = elim (answer (step_checks w s a)) [ none ↦ apply s (action w a) | some t ↦ s ]

-- one step of action a of the sheet w in the state `before`
pub record Steps (w before : List ℕ) (a : ℕ) (verdict : Verdict) (after : List ℕ) : Type 0 where
  pub verdict_told : told verdict ≡ answer (step_checks w before a)
  pub state : after ≡ state_after w before a

-- a fact of an action acts in a state: an effect has it whose condition holds there
abbrev pub acts : List ℕ → Action → Fact → Type 0
acts s a f = Memᴰ f (acting s a.effects)

-- what holds of the state after a step, by whether it is refused: `step_theorem` of proofs/StepTheorem
pub record After (w before : List ℕ) (a : ℕ) (refusal : Option Told) (after : List ℕ) : Type 0 where
  -- a refused step leaves the state, all its values
  pub refused : (t : Told) → refusal ≡ some t → after ≡ before
  -- a step that is done gives the variable of each effect that acts the value named
  pub named : refusal ≡ none → (f : Fact) → acts before (action w a) f → f.variable < length before
      → get_or after f.variable 0 ≡ f.value
  -- done or refused, a step keeps the others, also one that it might write
  pub others : (v : ℕ) → ((f : Fact) → acts before (action w a) f → f.variable ≢ v) → get_or after v 0 ≡ get_or before v 0
  -- among them those past the task's variables
  pub past : (v : ℕ) → variables w ≤ v → get_or after v 0 ≡ get_or before v 0
  -- and no value is added or lost
  pub complete : length after ≡ length before
