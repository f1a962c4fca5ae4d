-- The better of the best so far and a trial, by cases. Assumes nothing.
use mathlib.Core.Path.{◌≡◌, sym, ◌∙◌}
use mathlib.Core.Bool.{Bool, true, false}
use Rattle.tally.specs.Tally.{comparison}
use Rattle.std.specs.Ordering.{is_lt}
use Rattle.elimination.specs.declared.greedy.Best.{Best}
use Rattle.trial.specs.declared.Tried.{Tried}
use Rattle.elimination.specs.Between.Round.{replaces, better_of}

module _ (so_far : Best) (tried : Tried) where
  pub fails : tried.succeeds ≡ false → so_far ≡ better_of so_far tried
  unfolding better_of replaces
  fails e = rw e

  module _ (succeeds : tried.succeeds ≡ true) where
    pub first_success : so_far.found ≡ false → record { found = true; flags = tried.flags; struck = tried.struck } ≡ better_of so_far tried
    unfolding better_of replaces
    first_success e = rw (succeeds, e)

    -- of two successes, by the order of what they strike
    module _ (found : so_far.found ≡ true) (lower : Bool) (compared : lower ≡ is_lt (comparison so_far.struck tried.struck)) where
      pub more_success : lower ≡ true → record { found = true; flags = tried.flags; struck = tried.struck } ≡ better_of so_far tried
      unfolding better_of replaces
      more_success is = rw (succeeds, found, sym compared ∙ is)

      pub no_more_success : lower ≡ false → so_far ≡ better_of so_far tried
      unfolding better_of replaces
      no_more_success is = rw (succeeds, found, sym compared ∙ is)
