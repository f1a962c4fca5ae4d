-- `bad_length` meets its contract: each return is decided by the tests that led there. Assumes nothing.
use Rattle.sheet.specs.Causes.{bad_length}
use borrow.Author.Tests.{le-ltb, lt-ltb, eq-eqb, ne_eqb}
use mathlib.Core.Path.{sym}
use Rattle.sheet_check.proofs.header.bad_length.Goals as goal

pub returns-then-w-lt-PAIRS_AT : goal.returns-then-w-lt-PAIRS_AT
unfolding bad_length
returns-then-w-lt-PAIRS_AT c = simp (lt-ltb _ _ c.if-w-lt-PAIRS_AT.true)

pub returns-then-w-gt-WORDS : goal.returns-then-w-gt-WORDS
unfolding bad_length
returns-then-w-gt-WORDS c = simp (le-ltb _ _ c.if-w-lt-PAIRS_AT.false, lt-ltb _ _ c.if-w-gt-WORDS.true)

pub returns-then-number-w : goal.returns-then-number-w
unfolding bad_length
returns-then-number-w c = simp (le-ltb _ _ c.if-w-lt-PAIRS_AT.false, le-ltb _ _ c.if-w-gt-WORDS.false, sym c.number.ensures.0, eq-eqb _ _ c.if-number-w.true)

pub returns : goal.returns
unfolding bad_length
returns c = simp (le-ltb _ _ c.if-w-lt-PAIRS_AT.false, le-ltb _ _ c.if-w-gt-WORDS.false, sym c.number.ensures.0, ne_eqb _ _ c.if-number-w.false)
