-- The exact reduction of a plan (document 01, "The three ways of striking"; a minimal reduction in the field's words,
-- source document 000, definition 3, without its limit to strict subsets). It is defined over all reductions, and knows
-- nothing of landmarks, of a search or of a limit. Assumes nothing.
use Rattle.std.specs.Prelude.{ℕ, ◌≤◌, ◌<◌, ◌≡◌, ◌≢◌, false, List, get_or}
use Rattle.sas.specs.Task.{Assignment, State, Action}
use Rattle.sas.specs.Plan.{cost}
use Rattle.reduction.specs.Reduction.{Reduction, keeps, kept, count, ValidReduction}

-- the first index at which two reductions differ
pub record FirstDifference (m n : Reduction) (i : ℕ) : Type 0 where
  pub before : (k : ℕ) → k < i → get_or m k false ≡ get_or n k false
  pub here : get_or m i false ≢ get_or n i false

-- of two reductions of p the first wins: it has the lower price, then the fewer steps; where both are equal and the two
-- differ, the other keeps the step at their first difference, and so the first strikes it
pub record Wins (p : List Action) (m n : Reduction) : Type 0 where
  pub no_dearer : cost (kept m p) ≤ cost (kept n p)
  pub no_longer : cost (kept m p) ≡ cost (kept n p) → count m ≤ count n
  pub strikes_first : cost (kept m p) ≡ cost (kept n p) → count m ≡ count n → (i : ℕ) → FirstDifference m n i
      → keeps n i

-- of the valid reductions, whatever makes one valid, the winner
pub record Minimal (Valid : Reduction → Type 0) (p : List Action) (m : Reduction) : Type 0 where
  pub valid : Valid m
  pub wins : (n : Reduction) → Valid n → Wins p m n

-- "of all valid reductions, the lowest price, then the fewest steps; among those still equal, at the first step where
-- two differ, the one that strikes it"
abbrev pub MinimalReduction : State → Assignment → List Action → Reduction → Type 0
MinimalReduction s goal p m = Minimal (ValidReduction s goal p) p m
