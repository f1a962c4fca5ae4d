-- `read_fact` meets its contract: a law for each way to a return, by what stands behind its numbers, and whether they are kept. Assumes nothing.
use native.Mathlib.Omega.{arith}
use mathlib.Core.Path.{refl, ◌∙◌, ap}
use lib.ListN.{length-set}
use Rattle.form.specs.Between.Reading.{stand, keeping}
use Rattle.form.proofs.ReadsLaws.{reads_on_tape}
use Rattle.form.proofs.StopLaws.{stops_on_tape}
use Rattle.number_rows.proofs.RowLaws.{number_ahead, room_at}
use Rattle.number_rows.proofs.FactRowLaws.{fact_ended, fact_on, fact_kept, fact_passed}
use Rattle.number_rows.proofs.facts.read_fact.Goals as goal

pub returns-in_default : goal.returns-in_default
returns-in_default c = stops_on_tape c.next_line.ensures refl (fact_ended (stand c.args.reader.now) _ c.in_default.ensures)

pub returns-in_default-read_number : goal.returns-in_default-read_number
returns-in_default-read_number c =
    stops_on_tape c.next_line-in_default-read_number.ensures refl (fact_on (stand c.args.reader.now) _ _ c.in-Some.ensures c.in_default-read_number.ensures)

pub pass-requires : goal.pass-requires
pass-requires c = omega (arith, number_ahead c.in-Some.ensures, number_ahead c.in-Some-read_number.ensures)

pub keep-requires : goal.keep-requires
keep-requires c =
    room_at c.pass.new.self _ c.pass.ensures (omega (arith, number_ahead c.in-Some.ensures, number_ahead c.in-Some-read_number.ensures, c.args.reader.now.room))

pub keep-requires-then-keeps : goal.keep-requires-then-keeps
keep-requires-then-keeps c =
    room_at c.keep.new.self _ (c.keep.ensures ∙ ap (keeping _) c.pass.ensures)
    (omega
    (arith, number_ahead c.in-Some.ensures, number_ahead c.in-Some-read_number.ensures, c.args.reader.now.room, length-set c.args.reader.now.tape.now c.args.reader.now.count c.in-Some.variable.value))

pub returns-then-keeps : goal.returns-then-keeps
returns-then-keeps c =
    rw c.if-keeps.true (
    reads_on_tape (c.keep-then-keeps.ensures ∙ ap (keeping _) (c.keep.ensures ∙ ap (keeping _) c.pass.ensures)) refl
    (fact_kept (stand c.args.reader.now) _ _ c.in-Some.ensures c.in-Some-read_number.ensures
    (omega (arith, number_ahead c.in-Some.ensures, number_ahead c.in-Some-read_number.ensures, c.args.reader.now.room)))
    )

pub returns-else-keeps : goal.returns-else-keeps
returns-else-keeps c =
    rw c.if-keeps.false (reads_on_tape c.pass.ensures refl (fact_passed (stand c.args.reader.now) _ _ c.in-Some.ensures c.in-Some-read_number.ensures))
