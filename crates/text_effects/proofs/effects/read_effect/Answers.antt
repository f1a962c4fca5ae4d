-- `read_effect` meets its contract: a law for each way to a return, by whether its conditions and what ends it are there. Assumes nothing.
use Prim.Native.Nat.{◌+◌, ◌*◌}
use native.Mathlib.Omega.{arith}
use mathlib.Core.Path.{refl, ◌∙◌, ap}
use lib.ListN.{length, length-set}
use lib.Dec.{ltb}
use Rattle.form.specs.Between.Reading.{stand, noting}
use Rattle.form.proofs.ReadsLaws.{reads_on_tape}
use Rattle.form.proofs.StopLaws.{stops_on_tape}
use Rattle.number_rows.proofs.RowLaws.{number_ahead}
use Rattle.text_effects.proofs.EffectLaws.{effect_ended, effect_short, effect_cut, effect_ahead, effect_read}
use Rattle.text_effects.proofs.effects.read_effect.Goals as goal

pub returns-in_default : goal.returns-in_default
returns-in_default c = stops_on_tape c.next_line.ensures refl (effect_ended (stand c.args.reader.now) c.in_default.ensures)

pub read_run-requires : goal.read_run-requires
read_run-requires c =
    omega (arith, number_ahead c.in-Some.ensures, c.args.reader.now.room, length-set c.args.reader.now.tape.now c.args.reader.now.count c.in-Some.conditions.value)

pub returns-in_default-read_run : goal.returns-in_default-read_run
returns-in_default-read_run c =
    stops_on_tape c.next_line-in_default-read_run.ensures refl (effect_short (stand c.args.reader.now) _ c.in-Some.ensures c.in_default-read_run.ensures)

pub read_change-requires : goal.read_change-requires
read_change-requires c =
    omega
    (arith, number_ahead c.in-Some.ensures, c.in-Some-read_run.ensures.ahead, c.read_run.auto.tape, c.args.reader.now.room, length-set c.args.reader.now.tape.now c.args.reader.now.count c.in-Some.conditions.value)

pub returns-in_default-read_change : goal.returns-in_default-read_change
returns-in_default-read_change c =
    stops_on_tape c.next_line-in_default-read_change.ensures refl
    (effect_cut (stand c.args.reader.now) _ c.in-Some.ensures _ _ _ c.in-Some-read_run.ensures c.in_default-read_change.ensures)

pub pass-requires : goal.pass-requires
pass-requires c =
    omega (arith, effect_ahead (stand c.args.reader.now) _ c.in-Some.ensures _ _ _ c.in-Some-read_run.ensures _ _ c.in-Some-read_change.ensures)

pub invariant_of-reader-4 : goal.invariant_of-reader-4
invariant_of-reader-4 c =
    let ahead = effect_ahead (stand c.args.reader.now) _ c.in-Some.ensures _ _ _ c.in-Some-read_run.ensures _ _ c.in-Some-read_change.ensures in
    record {
      room = omega
          (arith, ahead, c.args.reader.now.room, ap (λ u. length u.rest) c.pass.ensures, ap (λ u. length u.tape) c.pass.ensures, c.read_change.auto.tape, c.read_run.auto.tape, length-set c.args.reader.now.tape.now c.args.reader.now.count c.in-Some.conditions.value);
      lines = c.pass.new.self.lines;
    }

pub returns : goal.returns
returns c =
    reads_on_tape
    (c.note.ensures
    ∙ ap
    (λ u.
    noting (ltb 0 c.in-Some.conditions.value)
    (record {
      rest = u.rest;
      tape = u.tape;
      tape_at = u.tape_at;
      line = u.line;
      count = c.args.reader.now.count + 1 + 2 * c.in-Some.conditions.value + 3;
      barred = u.barred;
    }))
    c.pass.ensures)
    refl
    (effect_read (stand c.args.reader.now) _ c.in-Some.ensures _ _ _ c.in-Some-read_run.ensures _ _ c.in-Some-read_change.ensures c.args.reader.now.room refl)
