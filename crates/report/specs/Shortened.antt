-- What is printed for a sheet and a list that is shortened by the minimal reduction (document 01: exact reduction).
-- Assumes nothing.
use Rattle.std.specs.Prelude.{ℕ, List}
use Rattle.refusal.specs.Check.{answer}
use Rattle.plan.specs.Limits.{most_steps}
use Rattle.minimal.specs.Minimised.{most_unmarked, minimal_checks}
use Rattle.minimal.specs.Between.Computed.{minimal_of}
use Rattle.report.specs.Report.{reported}

-- what is printed for the list l of the sheet w: the first of the checks 1 to 12 that fires refuses it; the
-- list left has room for the longest
unfoldable pub shortened : List ℕ → List ℕ → List ℕ
shortened w l = reported (answer (minimal_checks most_unmarked w l most_steps)) w l (minimal_of w l)
