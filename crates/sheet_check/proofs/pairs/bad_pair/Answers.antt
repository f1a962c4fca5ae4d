-- `bad_pair` meets its contract: each return is decided by the tests that led there; the last joins two ways past the test of the last pair. Assumes nothing.
use Rattle.sheet.specs.Causes.{bad_pair}
use borrow.Author.Tests.{le-ltb, lt-ltb, eq-eqb, ne_eqb}
use mathlib.Core.Path.{sym}
use Rattle.sheet_check.proofs.pairs.bad_pair.Goals as goal
use Rattle.sheet_check.proofs.pairs.bad_pair.Goals.{then-k-actions+else-end-length, else-k-actions}

pub returns-then-from-due : goal.returns-then-from-due
unfolding bad_pair
returns-then-from-due c = simp (sym c.offset-from.ensures.0, sym c.due.ensures, ne_eqb _ _ c.if-from-due.true)

pub returns-then-length-end : goal.returns-then-length-end
unfolding bad_pair
returns-then-length-end c = simp (sym c.offset-from.ensures.0, sym c.due.ensures, eq-eqb _ _ c.if-from-due.false, sym c.size.ensures.0, sym c.number-length.ensures.0, lt-ltb _ _ c.if-length-end.true)

pub returns-then-end-length : goal.returns-then-end-length
unfolding bad_pair
returns-then-end-length c = simp (sym c.offset-from.ensures.0, sym c.due.ensures, eq-eqb _ _ c.if-from-due.false, sym c.size.ensures.0, sym c.number-length.ensures.0, le-ltb _ _ c.if-length-end.false, sym c.actions.ensures.0, eq-eqb _ _ c.if-k-actions.true, lt-ltb _ _ c.if-end-length.true)

pub returns : goal.returns
unfolding bad_pair
returns c =
    elim c.if-k-actions.branch [
      | then-k-actions+else-end-length w ↦ simp (sym c.offset-from.ensures.0, sym c.due.ensures, eq-eqb _ _ c.if-from-due.false, sym c.size.ensures.0, sym c.number-length.ensures.0, le-ltb _ _ c.if-length-end.false, sym c.actions.ensures.0, sym c.wrong_size.ensures, eq-eqb _ _ w.if-k-actions.true, le-ltb _ _ w.if-end-length.false)
      | else-k-actions w ↦ simp (sym c.offset-from.ensures.0, sym c.due.ensures, eq-eqb _ _ c.if-from-due.false, sym c.size.ensures.0, sym c.number-length.ensures.0, le-ltb _ _ c.if-length-end.false, sym c.actions.ensures.0, sym c.wrong_size.ensures, ne_eqb _ _ w.if-k-actions.false)
    ]
