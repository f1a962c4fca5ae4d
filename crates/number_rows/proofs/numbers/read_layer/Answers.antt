-- `read_layer` meets its contract: a law for each way to a return, by whether the line is one number. Assumes nothing.
use native.Mathlib.Omega.{arith}
use mathlib.Core.Path.{refl, ◌∙◌, ap}
use Rattle.fields.specs.Between.Fields.{word_reads}
use Rattle.fields.proofs.NumberLaws.{word_ahead, any_kind}
use Rattle.form.specs.Between.Reading.{stand, noting}
use Rattle.form.proofs.ReadsLaws.{reads_on_tape}
use Rattle.form.proofs.StopLaws.{stops_on_tape}
use Rattle.number_rows.proofs.RowLaws.{layer_lacks, layer_read}
use Rattle.number_rows.proofs.numbers.read_layer.Goals as goal

pub returns-in_default : goal.returns-in_default
returns-in_default c = stops_on_tape c.next_line.ensures refl (layer_lacks (stand c.args.reader.now) c.in_default.ensures)

pub pass-requires : goal.pass-requires
pass-requires c = omega (arith, word_ahead word_reads any_kind _ _ _ c.in-Some.ensures)

pub returns : goal.returns
returns c = reads_on_tape (c.note.ensures ∙ ap (noting _) c.pass.ensures) refl (layer_read (stand c.args.reader.now) _ c.in-Some.ensures)
