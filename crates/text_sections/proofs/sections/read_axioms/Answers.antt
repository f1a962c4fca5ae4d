-- `read_axioms` meets its contract: the number is followed by so many axioms. Assumes nothing.
use Rattle.std.proofs.Common.{rules}
use Rattle.form.proofs.ReadsLaws.{row_counted, row_stopped, passed_on}
use Rattle.text_sections.proofs.CountLaws.{axioms_follow}
use Rattle.text_sections.proofs.sections.read_axioms.Goals as goal

pub returns-in_err-n : goal.returns-in_err-n
returns-in_err-n c = passed_on c.from_residual.ensures.1 (row_stopped c.in_err-n.ensures)

pub returns : goal.returns
returns c = row_counted c.in_ok-n.ensures (axioms_follow _) (c.repeat.ensures.reads _ (record { each = λ r result s met. search rules }))
