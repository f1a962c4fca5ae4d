-- `keyword` meets its contract: a law for each way to a return, by whether the line is the keyword. Assumes nothing.
use mathlib.Core.Path.{refl}
use Rattle.form.proofs.KeywordLaws.{no_keyword, keyword_read, strip_shorter}
use Rattle.form.proofs.ReadsLaws.{reads_on_tape}
use Rattle.form.proofs.StopLaws.{stops_on_tape}
use Rattle.form.specs.Between.Reading.{stand}
use Rattle.form.proofs.reader.Reader.keyword.Goals as goal

pub returns-in_default : goal.returns-in_default
returns-in_default c = stops_on_tape c.next_line.ensures refl (no_keyword (stand c.args.self.now) _ c.in_default.ensures)

pub pass-requires : goal.pass-requires
pass-requires c = strip_shorter _ _ _ c.in-Some.ensures

pub returns : goal.returns
returns c = reads_on_tape c.pass.ensures refl (keyword_read (stand c.args.self.now) _ c.requires _ c.in-Some.ensures)
