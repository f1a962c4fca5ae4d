-- `first_writes` meets its contract, by whether there is a first. Assumes nothing.
use Rattle.conflict.proofs.ClashLaws.{first_writes_none, first_writes_told}
use Rattle.conflict.proofs.clash.first_writes.Goals as goal

pub returns-in-Some : goal.returns-in-Some
returns-in-Some c = rw c.variable.ensures.0 (first_writes_told _ _ _ _ c.in-Some.ensures.steps _)

pub returns-in-None : goal.returns-in-None
returns-in-None c = first_writes_none _ _ c.in-None.ensures.steps.0
