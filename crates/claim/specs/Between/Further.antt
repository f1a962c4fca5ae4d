-- When a list goes further than the minimal reduction: it passes the checks 1 to 11, and too many steps are unmarked.
-- Assumes nothing.
use Rattle.std.specs.Prelude.{ℕ, ◌<◌, ◌≡◌, List, length}
use Rattle.std.proofs.Math.Option.{none}
use Rattle.refusal.specs.Check.{answer}
use Rattle.tally.specs.declared.Tally.{Tally}
use Rattle.plan.specs.Checked.{lodged_tally}
use Rattle.landmark.specs.Marks.{unmarked}
use Rattle.reduced.specs.Reduced.{reduction_checks}
use Rattle.minimal.specs.Minimised.{most_unmarked}

pub record GoesFurther (w l before : List ℕ) (lodged : Tally) (others : ℕ) : Type 0 where
  pub passes : answer (reduction_checks w l (length before)) ≡ none
  pub tally : lodged ≡ lodged_tally w l
  pub counted : others ≡ unmarked w l
  pub many : most_unmarked < unmarked w l
