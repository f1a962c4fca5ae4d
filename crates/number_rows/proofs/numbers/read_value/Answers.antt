-- `read_value` meets its contract: it is a line of one number. Assumes nothing.
use mathlib.Core.Path.{refl}
use Rattle.form.proofs.ReadsLaws.{row_alone, row_stopped, passed_on}
use Rattle.number_rows.proofs.RowLaws.{plain_value}
use Rattle.number_rows.proofs.numbers.read_value.Goals as goal

pub returns-in_err-read_plain : goal.returns-in_err-read_plain
returns-in_err-read_plain c = passed_on c.from_residual.ensures.1 (row_stopped (c.in_err-read_plain.ensures _ plain_value))

pub returns : goal.returns
returns c = row_alone refl (c.in_ok-read_plain.ensures _ plain_value)
