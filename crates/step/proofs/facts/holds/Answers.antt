-- `holds` meets its contract: the test of the code is that of the definition, by whether the state has the variable. Assumes nothing.
use mathlib.Core.Path.{sym, ◌∙◌}
use borrow.Author.Tests.{le-ltb}
use Rattle.sas.proofs.FactLaws.{holds_known, holds_unknown}
use Rattle.step.proofs.facts.holds.Goals as goal

pub returns-then-v-state : goal.returns-then-v-state
returns-then-v-state c = rw (c.value.ensures.0, c.variable-v.ensures.0) (sym (holds_known _ _ (rw c.variable-v.ensures.0 at c.if-v-state.true)))

pub returns-else-v-state : goal.returns-else-v-state
returns-else-v-state c = le-ltb _ _ c.if-v-state.false ∙ sym (holds_unknown _ _ (rw c.variable-v.ensures.0 at c.if-v-state.false))
