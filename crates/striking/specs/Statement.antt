-- Demand 3 of what the exported minimal reduction writes to lent words, and what the exported licence writes. Assumes
-- nothing.
use Rattle.std.specs.Prelude.{ℕ, ◌≤◌, List, length}
use Rattle.std.proofs.Math.Option.{none}
use Rattle.sas.specs.Plan.{Plan}
use Rattle.sheet.specs.Decode.{task}
use Rattle.plan.specs.Valid.{steps}
use Rattle.plan.specs.Readable.{Readable}
use Rattle.minimal.specs.Minimised.{most_unmarked}
use Rattle.minimal.specs.Statement.{DemandThreeOf}
use Rattle.claim.specs.Statement.{LicensedWith}
use Rattle.striking.specs.Strikes.{AnswersLent, LicenceLent}

module _ (w l output output' mask mask' out out' : List ℕ) where
  -- for every accepted sheet, every valid list and every output that has as many words as the list has steps
  abbrev pub DemandThreeLent : Type 0
  DemandThreeLent =
      Readable w l → Plan (task w) (steps w l) → length l ≤ length output
      → DemandThreeOf w l most_unmarked (λ t m. AnswersLent t w l m output output' mask mask' out out')

  -- of every such list: the claim and the reduction of a licence
  abbrev pub MayBeLodgedLent : Type 0
  MayBeLodgedLent =
      Readable w l → Plan (task w) (steps w l) → length l ≤ length output
      → LicensedWith w l (λ c m. LicenceLent none w l c m output output' mask mask' out out')
