-- `read_head` meets its contract: a law for each way to a return, by whether the line is a change. Assumes nothing.
use mathlib.Core.Path.{refl}
use Rattle.form.specs.Between.Reading.{stand}
use Rattle.form.proofs.ReadsLaws.{reads_on_tape}
use Rattle.form.proofs.StopLaws.{stops_on_tape}
use Rattle.text_effects.proofs.EffectLaws.{head_lacks, head_read}
use Rattle.text_effects.proofs.effects.read_head.Goals as goal

pub returns-in_default : goal.returns-in_default
returns-in_default c = stops_on_tape c.next_line.ensures refl (head_lacks (stand c.args.reader.now) c.in_default.ensures)

pub returns : goal.returns
returns c = reads_on_tape c.pass.ensures refl (head_read (stand c.args.reader.now) c.args.reader.now.room _ _ c.in-Some.ensures)
