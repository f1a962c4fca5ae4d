-- `read_all` meets its contract: what comes before the number of variables, that number, and what follows it are read in turn. Assumes nothing.
use Rattle.form.proofs.ReadsLaws.{reads_then, reads_stopped, row_counted, row_stopped, passed_on}
use Rattle.text_sections.proofs.CountLaws.{plain_variables, variables_follow}
use Rattle.text_sections.proofs.text.read_all.Goals as goal

pub returns-in_err-read_front : goal.returns-in_err-read_front
returns-in_err-read_front c = passed_on c.from_residual.ensures.1 (reads_stopped _ c.in_err-read_front.ensures)

pub returns-in_err-n : goal.returns-in_err-n
returns-in_err-n c =
    passed_on c.from_residual-in_err-n.ensures.1 (reads_then c.in_ok-read_front.ensures (row_stopped (c.in_err-n.ensures _ plain_variables)))

pub returns : goal.returns
returns c =
    reads_then c.in_ok-read_front.ensures (row_counted (c.in_ok-n.ensures _ plain_variables) (variables_follow _) c.read_rest.ensures)
