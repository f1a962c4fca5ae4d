-- When the tests of a search are sound. Each law is about reductions and not about the search, so that a further cut
-- costs one test and one law: what a cut leaves out has no chance against the best. Assumes nothing.
use Rattle.std.specs.Prelude.{◌+◌, ◌<◌, ◌≡◌, Bool, true, false, List, length, get_or, take, drop}
use Rattle.sas.specs.Task.{Fact, Assignment, State, Action}
use Rattle.sas.specs.Plan.{holds}
use Rattle.reduction.specs.Reduction.{Reduction, kept, ValidFor, Before}
use Rattle.reduction.specs.Between.Order.{lower, Contains}
use Rattle.reduction.specs.Between.Wanted.{wanted}
use Rattle.reduction.specs.Between.Search.{Visit, Tests}

-- every valid reduction of the plan p from s keeps the flagged steps
abbrev pub FlagsKept : (State → Bool) → State → List Action → Reduction → Type 0
FlagsKept ends s p flags = (m : Reduction) → ValidFor ends s p m → Contains m flags

-- a visit as a search makes it: what was decided before its index leads from s to its state, and from the index on the
-- flagged steps are kept so far
pub record Visited (s : State) (p : List Action) (flags : Reduction) (v : Visit) : Type 0 where
  pub fits : length v.so_far ≡ length p
  pub reached : Before s p v.so_far v.index v.state
  pub to_come : drop v.index v.so_far ≡ drop v.index flags

-- a valid reduction that has decided as a visit did before its index, and then makes this choice: true where it keeps
-- the step
pub record Follows (ends : State → Bool) (s : State) (p : List Action) (v : Visit) (choice : Bool) (r : Reduction)
    : Type 0 where
  pub valid : ValidFor ends s p r
  pub decided : take v.index r ≡ take v.index v.so_far
  pub chosen : get_or r v.index false ≡ choice

-- a choice has no chance at a visit: no valid reduction that makes it there is lower than the best
abbrev pub Hopeless : (State → Bool) → State → List Action → Visit → Bool → Type 0
Hopeless ends s p v choice = (r : Reduction) → Follows ends s p v choice r → lower (kept r p) (kept v.best p) ≡ false

-- A test is a sound cut of a choice: where it says no, the choice has no chance. A cut of keeping may use that striking
-- was tried before, so that to strike has no chance against the best any more.
abbrev pub Cut : (State → Bool) → State → List Action → Reduction → Bool → (Visit → Bool) → Type 0
Cut ends s p flags choice test =
    (v : Visit) → v.index < length p → Visited s p flags v → (choice ≡ true → Hopeless ends s p v false)
    → test v ≡ false → Hopeless ends s p v choice

-- a reason for a cut of striking: a visit's state lacks a fact that is wanted behind its step
pub record Lacks (goal : Assignment) (p : List Action) (flags : Reduction) (v : Visit) : Type 0 where
  pub fact : Fact
  pub wanted_behind : wanted goal (drop (v.index + 1) p) (drop (v.index + 1) flags) fact ≡ true
  pub unheld : holds v.state fact ≡ false

-- what a search is told is sound for a plan p from s
pub record Sound (T : Tests) (s : State) (p : List Action) : Type 0 where
  pub fits : length T.flags ≡ length p
  pub flagged : FlagsKept T.ends s p T.flags
  pub strikes : Cut T.ends s p T.flags false T.may_strike
  pub keeps : Cut T.ends s p T.flags true T.may_keep
