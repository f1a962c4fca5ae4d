-- `read_number` meets its contract: a law for each way to a return, by the first byte. Assumes nothing.
use mathlib.Core.Path.{sym}
use Rattle.fields.proofs.WordLaws.{reads_zero, reads_digits, reads_no_digit}
use Rattle.fields.proofs.word.read_number.Goals as goal

pub returns-then-first-eq48 : goal.returns-then-first-eq48
returns-then-first-eq48 c = reads_zero _ _ _ c.in-Some.ensures.cases.0 c.if-first-eq48.true _ c.word_before.ensures

pub returns-then-is_ascii_digit : goal.returns-then-is_ascii_digit
returns-then-is_ascii_digit c =
    reads_digits _ _ _ c.in-Some.ensures.cases.0 c.if-first-eq48.false (sym c.if-is_ascii_digit.ensures.value) _ c.read_digits-digits.ensures _
    c.word_before-then-is_ascii_digit.ensures

pub returns : goal.returns
returns c = reads_no_digit _ _ _ c.in-Some.ensures.cases.0 (sym c.if-is_ascii_digit.ensures.value)
