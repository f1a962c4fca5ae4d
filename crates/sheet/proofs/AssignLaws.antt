-- What facts write among values: where none is left nothing is written, and the first of those that are left is written first. Assumes nothing.
use Prim.Native.Nat.{ℕ}
use mathlib.Core.Path.{◌≡◌}
use mathlib.Core.List.{[], ◌∷◌}
use lib.ListN.{set}
use Rattle.sas.specs.Task.{Assignment, State}
use Rattle.sas.specs.Plan.{assign}
use Rattle.sheet.specs.Decode.{fact_of}

pub assign_none : (s : State) (q : Assignment) → q ≡ [] → assign s q ≡ s
unfolding assign
assign_none s q none = rw none

pub assign_first : (s : State) (q later : Assignment) (x : ℕ) → q ≡ fact_of x ∷ later
    → assign s q ≡ assign (set s (fact_of x).variable (fact_of x).value) later
unfolding assign
assign_first s q later x first = rw first
