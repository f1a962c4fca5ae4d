-- A round of greedy elimination as the code makes it. Assumes nothing.
use Rattle.std.specs.Prelude.{ℕ, ◌≡◌, Bool, true, false, cond, ◌&&◌, List}
use Rattle.std.proofs.Math.Option.{none, some}
use Rattle.tally.specs.Tally.{nothing, comparison}
use Rattle.sheet.specs.Decode.{initial, goal}
use Rattle.plan.specs.Valid.{steps}
use Rattle.reduction.specs.Reduction.{Reduction, Before}
use Rattle.reduction.specs.Between.Elimination.{best}
use Rattle.reduced.specs.Between.Held.{mask}
use Rattle.std.specs.Ordering.{is_lt}
use Rattle.elimination.specs.declared.greedy.Best.{Best}
use Rattle.trial.specs.declared.Tried.{Tried}
use Rattle.trial.specs.Between.Walk.{Balanced}
use Rattle.trial.specs.Between.Current.{Current}

-- a success that strikes more, or the first, takes the place of the best so far
unfoldable pub replaces : Best → Tried → Bool
replaces so_far tried =
    tried.succeeds && cond so_far.found (is_lt (comparison so_far.struck tried.struck)) true

unfoldable pub better_of : Best → Tried → Best
better_of so_far tried =
    cond (replaces so_far tried) (record { found = true; flags = tried.flags; struck = tried.struck }) so_far

-- the best of the trials at the first n positions of the current list m
pub record Picks (w l : List ℕ) (m : Reduction) (n : ℕ) (r : Best) : Type 0 where
  pub nothing_found : r.found ≡ false → best (initial w) (goal w) (steps w l) m n ≡ none
  pub best_found : r.found ≡ true → best (initial w) (goal w) (steps w l) m n ≡ some (mask l r.flags)
  pub current : r.found ≡ true → Current w l r.flags
  pub balanced : r.found ≡ true → Balanced w l m (mask l r.flags) nothing r.struck

-- the best so far, and the state before the next position
pub record Looks (w l : List ℕ) (m : Reduction) (i : ℕ) (so_far : Best) (values : List ℕ) : Type 0 where
  pub picks : Picks w l m i so_far
  pub before : Before (initial w) (steps w l) m i values
