-- `check_read` meets its contract: the sheet's refusal, or else the list's. Assumes nothing.
use Rattle.plan.proofs.PlanLaws.{sheet_answers, list_answers}
use Rattle.refusal.proofs.PassedOnLaws.{passed_on}
use Rattle.refusal.specs.Refusal.{told}
use mathlib.Core.Path.{sym, ◌∙◌, ap}
use Rattle.plan.proofs.list.check_read.Goals as goal

pub returns-in_err-check_sheet : goal.returns-in_err-check_sheet
returns-in_err-check_sheet c =
    ap told (passed_on _ _ c.from_residual.ensures.1)
    ∙ sym (sheet_answers _ _ _ (sym c.check_sheet.ensures ∙ ap told c.in_err-check_sheet.was))

pub returns : goal.returns
returns c = c.check_list.ensures ∙ sym (list_answers _ _ _ (sym c.check_sheet.ensures ∙ ap told c.in_ok-check_sheet.was))
