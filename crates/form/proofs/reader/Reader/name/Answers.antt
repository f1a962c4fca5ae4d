-- `name` meets its contract: a law for each way to a return, by whether the line ends. Assumes nothing.
use mathlib.Core.Path.{refl}
use Rattle.form.proofs.KeywordLaws.{no_name, name_read}
use Rattle.form.proofs.ReadsLaws.{reads_on_tape}
use Rattle.form.proofs.StopLaws.{stops_on_tape}
use Rattle.form.specs.Between.Reading.{stand}
use Rattle.form.proofs.reader.Reader.name.Goals as goal

pub returns-in_default : goal.returns-in_default
returns-in_default c = stops_on_tape c.next_line.ensures refl (no_name (stand c.args.self.now) c.in_default.ensures)

pub returns : goal.returns
returns c = reads_on_tape c.pass.ensures refl (name_read (stand c.args.self.now) _ c.in-Some.ensures.0)
