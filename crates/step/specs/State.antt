-- A state in an array that has room for the state of any task. Assumes nothing.
use Rattle.std.specs.Prelude.{ℕ, min, List, take, replicate}
use Rattle.std.proofs.lemmas.List.Edits.{sets}
use Rattle.sas.specs.Task.{State}
use Rattle.sheet.specs.Limits.{limits}
use Rattle.sheet.specs.Layout.{variables}

-- how many values of the array are the state
abbrev pub state_size : List ℕ → ℕ
state_size w = min (variables w) limits.variables

-- the state that an array holds
abbrev pub front : List ℕ → List ℕ → State
front w values = take (state_size w) values

-- a state in an array: 64 values, zero past the state's
unfoldable pub in_array : State → List ℕ
in_array s = sets (replicate limits.variables 0) 0 s
