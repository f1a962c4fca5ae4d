-- A reduction of a plan (document 01, "Doing a step, and a valid list"; 01's list is a plan here and its price a cost).
-- Assumes nothing.
use Rattle.std.specs.Prelude.{ℕ, suc, ◌≡◌, Bool, true, false, List, [], ◌∷◌, length, get_or, take, replicate}
use Rattle.std.proofs.Math.Option.{none, some}
use Rattle.sas.specs.Task.{Assignment, State, Action}
use Rattle.sas.specs.Plan.{satisfies, run}

-- "A reduction, or striking, strikes none, some or all of its steps and keeps the order of the rest": one Boolean for
-- each lodged step, true where it is kept
abbrev pub Reduction : Type 0
Reduction = List Bool

-- the step at index i is kept; indices count from 0, document 01's positions from 1
abbrev pub keeps : Reduction → ℕ → Type 0
keeps m i = get_or m i false ≡ true

-- the list that a reduction leaves
unfoldable pub kept : {A : Type 0} → Reduction → List A → List A
kept m [] = []
kept [] (a ∷ p) = []
kept (true ∷ m) (a ∷ p) = a ∷ kept m p
kept (false ∷ m) (a ∷ p) = kept m p

-- the number of kept steps
unfoldable pub count : Reduction → ℕ
count [] = 0
count (true ∷ m) = suc (count m)
count (false ∷ m) = count m

-- the reduction that strikes none
abbrev pub whole : {A : Type 0} → List A → Reduction
whole p = replicate (length p) true

-- of what a first reduction leaves, a second one strikes: both as one reduction of the lodged list
unfoldable pub compose : Reduction → Reduction → Reduction
compose [] m = []
compose (false ∷ r) m = false ∷ compose r m
compose (true ∷ r) [] = false ∷ compose r []
compose (true ∷ r) (b ∷ m) = b ∷ compose r m

-- a list is valid for a test at the end: each step can be done in turn from s, and the state after the last passes
unfoldable pub valid_for : (State → Bool) → State → List Action → Bool
valid_for ends s p = elim (run s p) [ none ↦ false | some t ↦ ends t ]

-- a reduction is valid for a test at the end when the list it leaves is
pub record ValidFor (ends : State → Bool) (s : State) (p : List Action) (m : Reduction) : Type 0 where
  pub fits : length m ≡ length p
  pub valid_left : valid_for ends s (kept m p) ≡ true

-- document 01's test at the end: all goal facts hold
abbrev pub meets : Assignment → State → Bool
meets goal t = satisfies t goal

-- "A list is valid when each step can be done in turn from the starting values and all goal facts hold after the last."
abbrev pub valid : State → Assignment → List Action → Bool
valid s goal p = valid_for (meets goal) s p

-- "A reduction is valid when the list it leaves is."
abbrev pub ValidReduction : State → Assignment → List Action → Reduction → Type 0
ValidReduction s goal p m = ValidFor (meets goal) s p m

-- the kept steps before index i lead from s to t
abbrev pub Before : State → List Action → Reduction → ℕ → State → Type 0
Before s p m i t = run s (kept (take i m) (take i p)) ≡ some t
