-- The test whether an assignment holds, as the code tells what it found. Assumes nothing.
use Rattle.std.specs.Prelude.{ℕ, ◌≡◌, Option, None, Some, is_none, reverse}
use Rattle.std.proofs.Math.Option.{Option as Found, none, some}
use Rattle.sas.specs.Task.{Fact, Assignment, State}
use Rattle.sas.specs.Plan.{satisfies, first_failing}
use Rattle.sheet.specs.Decode.{fact_of}

-- the fact that is told by its word
abbrev pub failing : Option ℕ → Found Fact
failing None = none
failing (Some x) = some (fact_of x)

-- the last fact of an assignment that does not hold in a state: the first from the back
unfoldable pub last_failing : State → Assignment → Found Fact
last_failing s q = first_failing s (reverse q)

-- what the test of an assignment in a state answers
pub record Tests (s : State) (q : Assignment) (r : Option ℕ) : Type 0 where
  -- it passes just where the assignment holds, whatever the order: callers cite this alone
  pub held : is_none r ≡ satisfies s q
  -- the fact at which it stopped is the last that fails
  pub stopped : failing r ≡ last_failing s q
