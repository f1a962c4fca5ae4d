-- The worked list 3 by the rounds of document 02's rule (C-12): each of its three steps has a round of its own, so that
-- as many rounds as there are steps are needed. Assumes nothing.
use Rattle.std.specs.Prelude.{ℕ, ◌≤◌, List, [], ◌∷◌}
use Rattle.reduction.specs.Landmark.{InRound}
use Rattle.sheet.specs.Decode.{initial, goal}
use Rattle.plan.specs.Valid.{steps}
use Rattle.starred.specs.Sheets.{sheet_p}

-- lift, drain, drop
abbrev pub list_3 : List ℕ
list_3 = 0 ∷ 1 ∷ 2 ∷ []

-- the step at position k of it is in round a
abbrev pub OfRound : ℕ → ℕ → Type 0
OfRound a k = InRound (initial sheet_p) (goal sheet_p) (steps sheet_p list_3) a k

-- r is the first round of step k
abbrev pub FirstRound : ℕ → ℕ → Type 0
FirstRound r k = ((a : ℕ) × (a ≤ r) × OfRound a k) × ((a : ℕ) → OfRound a k → r ≤ a)

-- the drain gives the goal what the start lacks; then the lift is needed by the drain; then the drop puts back what the
-- lift changed
abbrev pub RoundsOfList3 : Type 0
RoundsOfList3 = FirstRound 1 2 × FirstRound 2 1 × FirstRound 3 3
