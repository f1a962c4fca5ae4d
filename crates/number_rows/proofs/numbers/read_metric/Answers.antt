-- `read_metric` meets its contract: a law for each way to a return, by whether the line is one number, and which. Assumes nothing.
use native.Mathlib.Omega.{arith}
use mathlib.Core.Path.{refl, ◌∙◌, ap}
use Rattle.form.specs.Between.Reading.{stand, keeping}
use Rattle.form.proofs.ReadsLaws.{reads_on_tape}
use Rattle.form.proofs.StopLaws.{stops_on_tape}
use Rattle.number_rows.proofs.RowLaws.{number_ahead, room_at, metric_lacks, metric_high, metric_read}
use Rattle.number_rows.proofs.numbers.read_metric.Goals as goal

pub returns-in_default : goal.returns-in_default
returns-in_default c = stops_on_tape c.next_line.ensures refl (metric_lacks (stand c.args.reader.now) c.in_default.ensures)

pub returns-then-metric-gt1 : goal.returns-then-metric-gt1
returns-then-metric-gt1 c = stops_on_tape c.next_line-then-metric-gt1.ensures refl (metric_high (stand c.args.reader.now) _ c.in-Some.ensures c.if-metric-gt1.true)

pub pass-requires : goal.pass-requires
pass-requires c = omega (arith, number_ahead c.in-Some.ensures)

pub keep-requires : goal.keep-requires
keep-requires c = room_at c.pass.new.self _ c.pass.ensures (omega (arith, number_ahead c.in-Some.ensures, c.args.reader.now.room))

pub returns : goal.returns
returns c =
    reads_on_tape (c.keep.ensures ∙ ap (keeping _) c.pass.ensures) refl
    (metric_read (stand c.args.reader.now) _ c.in-Some.ensures c.if-metric-gt1.false (omega (arith, number_ahead c.in-Some.ensures, c.args.reader.now.room)))
