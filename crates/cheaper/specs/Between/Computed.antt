-- What the cheaper elimination leaves as it is computed (`cheaper_so`, `cheaper_once`: what the rules leave, and
-- nothing else), and what the service of both answers (`both_of`: it can answer nothing else). Assumes nothing.
use Rattle.std.specs.Prelude.{ℕ, min, ◌≡◌, List, length}
use Rattle.refusal.specs.Refusal.{Verdict}
use Rattle.refusal.specs.Refusal.{told}
use Rattle.refusal.specs.Check.{answer, unless_refused}
use Rattle.tally.specs.declared.Tally.{Tally}
use Rattle.tally.specs.Tally.{nothing, comparison}
use Rattle.reduction.specs.Reduction.{Reduction}
use Rattle.reduced.specs.Reduced.{reduction_checks, tally_left, output_left}
use Rattle.elimination.specs.declared.single.Elimination.TheVariants.{Plain, Greedy}
use Rattle.elimination.specs.Between.Left.{elimination_of, greedy_elimination_of, left_by}
use Rattle.cheaper.specs.Cheaper.{cheaper_one}

unfoldable pub cheaper_of : List ℕ → List ℕ → Reduction
cheaper_of w l =
    cheaper_one (comparison (tally_left w l (left_by Greedy w l)) (tally_left w l (left_by Plain w l)))
    (left_by Plain w l) (left_by Greedy w l)

pub record ReducesBothOf (w l before before' : List ℕ) (verdict : Verdict) (first second : Tally)
    (after after' : List ℕ) : Type 0 where
  pub refusal : told verdict ≡ answer (reduction_checks w l (min (length before) (length before')))
  pub first_tally : first ≡ unless_refused (told verdict) (tally_left w l (elimination_of w l)) nothing
  pub second_tally : second ≡ unless_refused (told verdict) (tally_left w l (greedy_elimination_of w l)) nothing
  pub first_output : after ≡ unless_refused (told verdict) (output_left l (elimination_of w l) before) before
  pub second_output : after' ≡ unless_refused (told verdict) (output_left l (greedy_elimination_of w l) before') before'
