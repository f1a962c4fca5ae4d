-- The steps of a plan (document 01: list) over the SAS+ task, and where it fails to be valid. Assumes nothing.
use Rattle.std.specs.Prelude.{ℕ, ◌+◌, ◌≡◌, ◌⊎◌, List, map, length}
use Rattle.sas.specs.Task.{Action}
use Rattle.sas.specs.Plan.{Stuck, Unmet}
use Rattle.sheet.specs.Decode.{initial, goal, action}

-- the actions of a list's steps
abbrev pub steps : List ℕ → List ℕ → List Action
steps w l = map (action w) l

-- where a list that can be read is no plan: place k is that of the first step that can't be done, or one past the last
-- and only the goal is unmet
abbrev pub FailsAt : List ℕ → List ℕ → ℕ → Type 0
FailsAt w l k = Stuck (initial w) (steps w l) k ⊎ ((k ≡ length l + 1) × Unmet (goal w) (initial w) (steps w l))
