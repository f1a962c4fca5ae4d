-- `read_plain` meets its contract: a law for each way to a return, by whether the line is one number, and whether it is kept. Assumes nothing.
use native.Mathlib.Omega.{arith}
use mathlib.Core.Path.{refl, ◌∙◌, ap}
use Rattle.form.specs.Between.Reading.{stand, keeping}
use Rattle.form.proofs.ReadsLaws.{row_on_tape}
use Rattle.form.proofs.StopLaws.{stops_row_on_tape}
use Rattle.number_rows.proofs.RowLaws.{number_ahead, room_at, plain_lacks, plain_kept, plain_passed}
use Rattle.number_rows.proofs.numbers.read_plain.Goals as goal

pub returns-in_default : goal.returns-in_default
returns-in_default c = λ row plain_row. stops_row_on_tape c.next_line.ensures refl (plain_lacks (stand c.args.reader.now) c.in_default.ensures _ row plain_row)

pub pass-requires : goal.pass-requires
pass-requires c = omega (arith, number_ahead c.in-Some.ensures)

pub keep-requires : goal.keep-requires
keep-requires c = room_at c.pass.new.self _ c.pass.ensures (omega (arith, number_ahead c.in-Some.ensures, c.args.reader.now.room))

pub returns-then-keeps : goal.returns-then-keeps
returns-then-keeps c =
    rw c.if-keeps.true (
    λ row plain_row.
    row_on_tape (c.keep.ensures ∙ ap (keeping _) c.pass.ensures) refl
    (plain_kept (stand c.args.reader.now) _ row c.in-Some.ensures plain_row (omega (arith, number_ahead c.in-Some.ensures, c.args.reader.now.room)))
    )

pub returns-else-keeps : goal.returns-else-keeps
returns-else-keeps c =
    rw c.if-keeps.false (λ row plain_row. row_on_tape c.pass.ensures refl (plain_passed (stand c.args.reader.now) _ row c.in-Some.ensures plain_row))
