-- Demand 3 of what the program prints for the bytes of a sheet and its list. Assumes nothing.
use Rattle.std.specs.Prelude.{ℕ, ◌≡◌, List}
use Rattle.sas.specs.Plan.{Plan}
use Rattle.sheet.specs.Decode.{task}
use Rattle.plan.specs.Valid.{steps}
use Rattle.plan.specs.Readable.{Readable}
use Rattle.minimal.specs.Minimised.{most_unmarked}
use Rattle.minimal.specs.Statement.{DemandThreeOf}
use Rattle.records.specs.Bytes.{input_of}
use Rattle.report.specs.Report.{reported}
use Rattle.shorten.specs.Shorten.{printed}

-- for every accepted sheet and every valid list: the report of the minimal reduction, or the line of refusal 12
abbrev pub DemandThreePrinted : List ℕ → List ℕ → Type 0
DemandThreePrinted w l =
    Readable w l → Plan (task w) (steps w l)
    → DemandThreeOf w l most_unmarked (λ t m. printed (input_of w l) ≡ reported t w l m)
