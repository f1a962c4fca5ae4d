-- `read_counted` meets its contract: the number is followed by so many lines. Assumes nothing.
use Rattle.form.proofs.ReadsLaws.{row_counted, row_stopped, passed_on}
use Rattle.text_sections.proofs.sections.read_counted.Goals as goal

pub returns-in_err-n : goal.returns-in_err-n
returns-in_err-n g c = λ what ds counted always. passed_on c.from_residual.ensures.1 (row_stopped (c.in_err-n.ensures _ counted.plain_count))

pub returns : goal.returns
returns g c = λ what ds counted always. row_counted (c.in_ok-n.ensures _ counted.plain_count) (counted.lines _) (c.repeat.ensures.reads ds always)
