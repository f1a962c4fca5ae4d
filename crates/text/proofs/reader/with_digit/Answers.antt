-- `with_digit` meets its contract: a byte that is no digit, and a number that fits no word, leave no word. Assumes nothing.
use native.Mathlib.Omega.{arith}
use mathlib.Core.Path.{sym, ◌∙◌}
use Rattle.text.proofs.ReaderLaws.{behind_no_digit, behind_large, behind_digit}
use Rattle.text.proofs.reader.with_digit.Goals as goal

pub returns-then-not-is_ascii_digit : goal.returns-then-not-is_ascii_digit
returns-then-not-is_ascii_digit c = behind_no_digit _ _ (sym c.is_ascii_digit.ensures.value ∙ c.if-not-is_ascii_digit.true)

pub returns-in_err-checked_mul : goal.returns-in_err-checked_mul
returns-in_err-checked_mul c = rw c.from_residual.ensures (behind_large _ _ (omega (arith, c.in_err-checked_mul.ensures)))

pub returns : goal.returns
returns c = behind_digit _ _ _ _ _ (sym c.is_ascii_digit.ensures.value ∙ c.if-not-is_ascii_digit.false) c.in_ok-checked_mul.ensures.1 c.from.ensures c.checked_add.ensures
