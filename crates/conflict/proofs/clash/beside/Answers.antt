-- `beside` meets its contract. Assumes nothing.
use Rattle.conflict.proofs.ClashLaws.{beside_same, beside_other}
use Rattle.conflict.proofs.clash.beside.Goals as goal

pub returns-then-next-fact : goal.returns-then-next-fact
returns-then-next-fact c = rw (c.variable.ensures.0, c.variable-then-next-fact.ensures.0) (beside_other _ _ c.if-next-fact.true)

pub returns-else-next-fact : goal.returns-else-next-fact
returns-else-next-fact c = beside_same _ _ c.if-next-fact.false
