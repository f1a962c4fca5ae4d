-- `license_plan` meets its contract: what is written is what the service answers. Assumes nothing.
use Rattle.striking.proofs.StrikeLaws.{lent_licenses, lent_licence}
use Rattle.std.specs.Prelude.{Ok, Err}
use Rattle.claim.specs.Licensing.{licensing}
use Rattle.striking.proofs.license_plan.Goals as goal

pub returns-in-Ok : goal.returns-in-Ok
returns-in-Ok c =
    let licensed = c.in-Ok.ensures in
    let writes = c.write_reduced.ensures in
    let claimed = c.write_claim.ensures in
    record {
      words = lent_licenses _ _ _ _ _ _ _ _ _ _ writes claimed licensed.answer;
      may_be_lodged = lent_licence _ _ _ _ _ _ _ _ _ (licensing (Ok c.in-Ok.licence)) writes claimed licensed.may_be_lodged;
    }

pub returns-in-Err : goal.returns-in-Err
returns-in-Err c =
    let licensed = c.in-Err.ensures in
    let writes = c.write_reduced-in-Err.ensures in
    let claimed = c.write_claim-in-Err.ensures in
    record {
      words = lent_licenses _ _ _ _ _ _ _ _ _ _ writes claimed licensed.answer;
      may_be_lodged = lent_licence _ _ _ _ _ _ _ _ _ (licensing (Err c.in-Err.refusal)) writes claimed licensed.may_be_lodged;
    }
