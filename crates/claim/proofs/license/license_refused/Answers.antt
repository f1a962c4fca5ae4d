-- `license_refused` meets its contract: one of the checks 1 to 11 refuses, or the list goes further. Assumes nothing.
use Rattle.std.proofs.Common.{ap, refl}
use Rattle.refusal.proofs.PassedOnLaws.{passed_on}
use Rattle.plan.specs.Checked.{answer_in}
use Rattle.claim.proofs.LicenseLaws.{lodged_refuses, lodged_further}
use Rattle.claim.proofs.license.license_refused.Goals as goal

pub license_further-requires : goal.license_further-requires
license_further-requires c = lodged_further _ _ _ _ _ _ c.check_room.ensures c.in_ok-checked.ensures _ c.args.refusal _ refl c.requires c.place.ensures

pub returns-in_err-checked : goal.returns-in_err-checked
returns-in_err-checked c =
    rw (passed_on _ _ c.from_residual.ensures.1)
    (lodged_refuses _ _ _ _ _ _ c.check_room.ensures c.check_lodged.ensures _ (ap answer_in c.in_err-checked.was))
