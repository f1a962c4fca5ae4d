-- `minimal_reduction` meets its contract: it passes the limit, and demand 3 holds of what is answered with any. Assumes nothing.
use Rattle.minimal.proofs.ComputedTheorem.{minimises_so}
use Rattle.minimal.proofs.DemandThree.{demand_three}
use Rattle.minimal.proofs.reduce.minimal_reduction.Goals as goal

pub returns : goal.returns
returns c = let computed = c.reduce_within.ensures in record { answer = minimises_so _ _ _ _ _ _ computed; demand_three = demand_three _ _ _ _ _ _ computed }
