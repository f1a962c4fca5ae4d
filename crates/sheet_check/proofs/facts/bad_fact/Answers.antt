-- `bad_fact` meets its contract: each return is decided by the tests that led there. Assumes nothing.
use Rattle.sheet.specs.Causes.{bad_fact}
use borrow.Author.Tests.{le-ltb, lt-ltb, le-leb, lt-leb}
use mathlib.Core.Path.{sym}
use Rattle.sheet_check.proofs.facts.bad_fact.Goals as goal

pub returns-then-variables-variable : goal.returns-then-variables-variable
unfolding bad_fact
returns-then-variables-variable c = simp (sym c.number-fact.ensures.0, sym c.variables.ensures.0, le-leb _ _ c.if-variables-variable.true)

pub returns-then-domain-fact : goal.returns-then-domain-fact
unfolding bad_fact
returns-then-domain-fact c = simp (sym c.number-fact.ensures.0, sym c.variables.ensures.0, lt-leb _ _ c.if-variables-variable.false, sym c.domain.ensures.0, le-leb _ _ c.if-domain-fact.true)

pub returns-then-variable-number : goal.returns-then-variable-number
unfolding bad_fact
returns-then-variable-number c = simp (sym c.number-fact.ensures.0, sym c.variables.ensures.0, lt-leb _ _ c.if-variables-variable.false, sym c.domain.ensures.0, lt-leb _ _ c.if-domain-fact.false, lt-ltb _ _ c.if-from-i.true, sym c.number.ensures.0, le-leb _ _ c.if-variable-number.true)

pub returns-else-variable-number : goal.returns-else-variable-number
unfolding bad_fact
returns-else-variable-number c = simp (sym c.number-fact.ensures.0, sym c.variables.ensures.0, lt-leb _ _ c.if-variables-variable.false, sym c.domain.ensures.0, lt-leb _ _ c.if-domain-fact.false, lt-ltb _ _ c.if-from-i.true, sym c.number.ensures.0, lt-leb _ _ c.if-variable-number.false)

pub returns-else-from-i : goal.returns-else-from-i
unfolding bad_fact
returns-else-from-i c = simp (sym c.number-fact.ensures.0, sym c.variables.ensures.0, lt-leb _ _ c.if-variables-variable.false, sym c.domain.ensures.0, lt-leb _ _ c.if-domain-fact.false, le-ltb _ _ c.if-from-i.false)
