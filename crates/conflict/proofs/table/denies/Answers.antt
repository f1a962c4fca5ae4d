-- `denies` meets its contract, by whether the table says something of the variable. Assumes nothing.
use Rattle.conflict.proofs.DenyLaws.{nothing_said, something_said}
use Rattle.conflict.proofs.table.denies.Goals as goal

pub returns-then-said-ne-UNSAID : goal.returns-then-said-ne-UNSAID
returns-then-said-ne-UNSAID c = rw c.value.ensures.0 (something_said _ _ _ (rw (← c.variable.ensures.0) c.get_or-said.ensures) c.if-said-ne-UNSAID.true)

pub returns-else-said-ne-UNSAID : goal.returns-else-said-ne-UNSAID
returns-else-said-ne-UNSAID c = nothing_said _ _ _ (rw (← c.variable.ensures.0) c.get_or-said.ensures) c.if-said-ne-UNSAID.false
