-- `bad_edition` meets its contract: each return is decided by its test. Assumes nothing.
use Rattle.sheet.specs.Causes.{bad_edition}
use borrow.Author.Tests.{eq-eqb, ne_eqb}
use mathlib.Core.Path.{sym}
use Rattle.sheet_check.proofs.header.bad_edition.Goals as goal

pub returns-then-number-eq-EDITION : goal.returns-then-number-eq-EDITION
unfolding bad_edition
returns-then-number-eq-EDITION c = simp (sym c.number.ensures.0, eq-eqb _ _ c.if-number-eq-EDITION.true)

pub returns : goal.returns
unfolding bad_edition
returns c = simp (sym c.number.ensures.0, ne_eqb _ _ c.if-number-eq-EDITION.false)
