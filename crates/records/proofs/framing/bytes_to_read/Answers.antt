-- `bytes_to_read` meets its contract: each ending of the record is a case, and what is read of a record within its limits is within the most bytes. Assumes
-- nothing.
use native.Mathlib.Omega.{arith}
use mathlib.Core.Path.{sym, ◌∙◌, ap}
use Rattle.std.specs.Prelude.{Err}
use Rattle.records.proofs.FormLaws.{reads_from, untold_low, end_low}
use Rattle.records.proofs.framing.bytes_to_read.Goals as goal

pub overflow_add-result : goal.overflow_add-result
overflow_add-result c = omega (arith, end_low c.args.further c.args.beyond _ _ c.in-Ok.ensures)

pub returns-in-Ok : goal.returns-in-Ok
returns-in-Ok c = (sym (reads_from _ _ _ _ c.in-Ok.ensures), end_low _ _ _ _ c.in-Ok.ensures)

pub returns-in-Err-Untold : goal.returns-in-Err-Untold
returns-in-Err-Untold c =
    let ends = ap Err (sym c.in-Err-Untold.field-0-is) ∙ c.in-Err-Untold.ensures in
    (sym (reads_from _ _ _ _ ends), untold_low _ _ _ _ ends)

pub returns-in-Err-Unfit : goal.returns-in-Err-Unfit
returns-in-Err-Unfit c = (sym (reads_from _ _ _ _ (ap Err (sym c.in-Err-Unfit.field-0-is) ∙ c.in-Err-Unfit.ensures)), omega arith)

pub returns-in-Err-Long : goal.returns-in-Err-Long
returns-in-Err-Long c = (sym (reads_from _ _ _ _ (ap Err (sym c.in-Err-Long.field-0-is) ∙ c.in-Err-Long.ensures)), omega arith)
