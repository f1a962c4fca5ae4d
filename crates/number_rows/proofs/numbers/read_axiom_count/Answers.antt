-- `read_axiom_count` meets its contract: a law for each way to a return, by whether the line is one number. Assumes nothing.
use native.Mathlib.Omega.{arith}
use mathlib.Core.Path.{refl, ◌∙◌, ap}
use Rattle.form.specs.Between.Reading.{stand, noting}
use Rattle.form.proofs.ReadsLaws.{row_on_tape}
use Rattle.form.proofs.StopLaws.{stops_row_on_tape}
use Rattle.number_rows.proofs.RowLaws.{number_ahead, axiom_count_lacks, axiom_count_read}
use Rattle.number_rows.proofs.numbers.read_axiom_count.Goals as goal

pub returns-in_default : goal.returns-in_default
returns-in_default c = stops_row_on_tape c.next_line.ensures refl (axiom_count_lacks (stand c.args.reader.now) c.in_default.ensures)

pub pass-requires : goal.pass-requires
pass-requires c = omega (arith, number_ahead c.in-Some.ensures)

pub returns : goal.returns
returns c = row_on_tape (c.note.ensures ∙ ap (noting _) c.pass.ensures) refl (axiom_count_read (stand c.args.reader.now) _ c.in-Some.ensures)
