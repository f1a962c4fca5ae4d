-- `put_licensed` meets its contract: the service over an output that has room for the longest list, and what is printed of its answer. Assumes nothing.
use mathlib.Core.Path.{refl}
use Rattle.claim_report.proofs.LicensedLaws.{reports_licensed, licensed_report, licensed_refusal}
use Rattle.claim_report.proofs.put_licensed.Goals as goal

pub returns-in-Ok : goal.returns-in-Ok
returns-in-Ok c =
    let licenses = c.in-Ok.ensures.answer in
    licensed_report _ _ _ _ _ refl licenses _ refl c.put_claim.ensures (c.put_report.ensures _ (reports_licensed _ _ _ _ _ refl licenses _ refl))

pub returns-in-Err : goal.returns-in-Err
returns-in-Err c =
    let put = c.put_refusal.ensures in
    licensed_refusal _ _ _ _ _ refl c.in-Err.ensures.answer _ refl put.puts put.refusal_len_bound
