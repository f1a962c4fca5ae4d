-- `bad_counts` meets its contract: each return is decided by the tests that led there. Assumes nothing.
use Rattle.sheet.specs.Causes.{bad_counts}
use borrow.Author.Tests.{le-ltb, lt-ltb}
use mathlib.Core.Path.{sym}
use Rattle.sheet_check.proofs.header.bad_counts.Goals as goal

pub returns-then-v-lt1 : goal.returns-then-v-lt1
unfolding bad_counts
returns-then-v-lt1 c = simp (sym c.variables-v.ensures.0, lt-ltb _ _ c.if-v-lt1.true)

pub returns-then-v-gt-VARIABLES : goal.returns-then-v-gt-VARIABLES
unfolding bad_counts
returns-then-v-gt-VARIABLES c = simp (sym c.variables-v.ensures.0, le-ltb _ _ c.if-v-lt1.false, lt-ltb _ _ c.if-v-gt-VARIABLES.true)

pub returns-then-actions-gt-ACTIONS : goal.returns-then-actions-gt-ACTIONS
unfolding bad_counts
returns-then-actions-gt-ACTIONS c = simp (sym c.variables-v.ensures.0, le-ltb _ _ c.if-v-lt1.false, le-ltb _ _ c.if-v-gt-VARIABLES.false, sym c.actions.ensures.0, lt-ltb _ _ c.if-actions-gt-ACTIONS.true)

pub returns : goal.returns
unfolding bad_counts
returns c = simp (sym c.variables-v.ensures.0, le-ltb _ _ c.if-v-lt1.false, le-ltb _ _ c.if-v-gt-VARIABLES.false, sym c.actions.ensures.0, le-ltb _ _ c.if-actions-gt-ACTIONS.false)
