-- `read_digits` meets its contract. The loop's invariant: the digits left lead to what all lead to. The measure is the number of bytes left. Assumes nothing.
use mathlib.Core.Path.{refl, sym}
use Rattle.fields.proofs.DigitLaws.{digits_begin, digits_next, digits_ended, digits_over}
use Rattle.fields.proofs.word.read_digits.Goals as goal
use Rattle.fields.proofs.word.read_digits.Goals.{in-Some+then-not-is_ascii_digit, in_default}

pub loop-digit-init : goal.loop-digit-init
loop-digit-init c = digits_begin _

pub loop-digit-preserved : goal.loop-digit-preserved
loop-digit-preserved c =
    digits_next _ _ _ c.loop-digit.invariant _ _ c.in-Some.ensures.cases.0 (sym c.if-not-is_ascii_digit.ensures.value) _ c.grow-value.ensures

pub returns : goal.returns
returns c =
    elim c.match-split_first.branch [
      | in-Some+then-not-is_ascii_digit w ↦
          digits_ended _ _ _ c.loop-digit.invariant _ _ w.in-Some.ensures.cases.0 (sym w.if-not-is_ascii_digit.ensures.value) refl
      | in_default w ↦ digits_over _ _ _ c.loop-digit.invariant w.in_default.ensures.cases refl
    ]
