-- `bad_variable` meets its contract: each return is decided by the tests that led there. Assumes nothing.
use Rattle.sheet.specs.Causes.{bad_variable}
use borrow.Author.Tests.{le-ltb, lt-ltb, le-leb, lt-leb}
use mathlib.Core.Path.{sym}
use Rattle.sheet_check.proofs.variables.bad_variable.Goals as goal

pub returns-then-values-lt1 : goal.returns-then-values-lt1
unfolding bad_variable
returns-then-values-lt1 c = simp (sym c.domain-values.ensures.0, lt-ltb _ _ c.if-values-lt1.true)

pub returns-then-values-gt-VALUES : goal.returns-then-values-gt-VALUES
unfolding bad_variable
returns-then-values-gt-VALUES c = simp (sym c.domain-values.ensures.0, le-ltb _ _ c.if-values-lt1.false, lt-ltb _ _ c.if-values-gt-VALUES.true)

pub returns-then-values-number : goal.returns-then-values-number
unfolding bad_variable
returns-then-values-number c = simp (sym c.domain-values.ensures.0, le-ltb _ _ c.if-values-lt1.false, le-ltb _ _ c.if-values-gt-VALUES.false, sym c.offset.ensures.0, sym c.number.ensures.0, le-leb _ _ c.if-values-number.true)

pub returns : goal.returns
unfolding bad_variable
returns c = simp (sym c.domain-values.ensures.0, le-ltb _ _ c.if-values-lt1.false, le-ltb _ _ c.if-values-gt-VALUES.false, sym c.offset.ensures.0, sym c.number.ensures.0, lt-leb _ _ c.if-values-number.false)
