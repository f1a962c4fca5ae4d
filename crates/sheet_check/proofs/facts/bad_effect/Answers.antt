-- `bad_effect` meets its contract: each return is decided by the tests that led there. Assumes nothing.
use Rattle.sheet.specs.Causes.{bad_effect}
use borrow.Author.Tests.{le-ltb, lt-ltb, le-leb, lt-leb}
use mathlib.Core.Path.{sym, ◌∙◌}
use Rattle.sheet_check.proofs.BadFactLaws.{bad_if_falls}
use Rattle.sheet_check.proofs.facts.bad_effect.Goals as goal

pub returns-then-variables-variable : goal.returns-then-variables-variable
unfolding bad_effect
returns-then-variables-variable c = simp (sym c.effect_fact.ensures, sym c.number-fact.ensures.0, sym c.variables.ensures.0, le-leb _ _ c.if-variables-variable.true)

pub returns-then-domain-fact : goal.returns-then-domain-fact
unfolding bad_effect
returns-then-domain-fact c = simp (sym c.effect_fact.ensures, sym c.number-fact.ensures.0, sym c.variables.ensures.0, lt-leb _ _ c.if-variables-variable.false, sym c.domain.ensures.0, le-leb _ _ c.if-domain-fact.true)

pub returns-then-fact-number : goal.returns-then-fact-number
returns-then-fact-number c =
    let falls = bad_if_falls _ _ _ _ _ _ c.effect_fact.ensures c.number-fact.ensures.0 _ _ c.variables.ensures.0 c.if-variables-variable.false c.domain.ensures.0 c.if-domain-fact.false in
    sym (falls ∙ rw (lt-ltb _ _ c.if-from-i.true, ← c.number.ensures.0, lt-ltb _ _ c.if-fact-number.true))

pub returns-else-fact-number : goal.returns-else-fact-number
returns-else-fact-number c =
    let falls = bad_if_falls _ _ _ _ _ _ c.effect_fact.ensures c.number-fact.ensures.0 _ _ c.variables.ensures.0 c.if-variables-variable.false c.domain.ensures.0 c.if-domain-fact.false in
    sym (falls ∙ rw (lt-ltb _ _ c.if-from-i.true, ← c.number.ensures.0, le-ltb _ _ c.if-fact-number.false))

pub returns-else-from-i : goal.returns-else-from-i
returns-else-from-i c =
    let falls = bad_if_falls _ _ _ _ _ _ c.effect_fact.ensures c.number-fact.ensures.0 _ _ c.variables.ensures.0 c.if-variables-variable.false c.domain.ensures.0 c.if-domain-fact.false in
    sym (falls ∙ rw (le-ltb _ _ c.if-from-i.false))
