-- What the program prints for the bytes of a sheet and its list: a claim, and the report of the reduction that it is
-- made of, as one statement. Assumes nothing.
use Rattle.std.specs.Prelude.{ℕ, ◌≡◌, List, ◌++◌}
use Rattle.sas.specs.Plan.{Plan}
use Rattle.sheet.specs.Decode.{task}
use Rattle.plan.specs.Valid.{steps}
use Rattle.plan.specs.Readable.{Readable}
use Rattle.claim.specs.Statement.{LicensedWith}
use Rattle.records.specs.Bytes.{input_of}
use Rattle.report.specs.Report.{report}
use Rattle.claim_report.specs.Licensed.{claim_line}
use Rattle.license.specs.License.{printed}

-- for every accepted sheet and every valid list: the line of its claim, and the report of its reduction
abbrev pub MayBeLodgedPrinted : List ℕ → List ℕ → Type 0
MayBeLodgedPrinted w l =
    Readable w l → Plan (task w) (steps w l)
    → LicensedWith w l (λ c m. printed (input_of w l) ≡ claim_line c ++ report w l m)
