-- `license` meets its contract: the minimal reduction answers, or refuses and leaves the output. Assumes nothing.
use Rattle.std.proofs.Common.{refl}
use Rattle.claim.proofs.ComputedTheorem.{licenses_so}
use Rattle.claim.proofs.LicenseLaws.{may_be_lodged, answers_least, refuses_there, answers_there}
use Rattle.claim.proofs.license.license.Goals as goal

pub license_refused-requires : goal.license_refused-requires
license_refused-requires c = refuses_there _ _ _ _ _ c.in-Err.ensures.answer _ refl

pub returns-in-Ok : goal.returns-in-Ok
returns-in-Ok c =
    let licenses = answers_least _ _ _ _ _ c.in-Ok.ensures.answer _ refl in
    record { answer = licenses_so _ _ _ _ _ licenses; may_be_lodged = may_be_lodged _ _ _ _ _ licenses }

pub returns-in-Err : goal.returns-in-Err
returns-in-Err c =
    let licenses = answers_there _ _ _ _ _ c.in-Err.ensures.answer _ refl _ _ c.license_refused.ensures in
    record { answer = licenses_so _ _ _ _ _ licenses; may_be_lodged = may_be_lodged _ _ _ _ _ licenses }
