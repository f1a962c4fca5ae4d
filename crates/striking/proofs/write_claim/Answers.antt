-- `write_claim` meets its contract: a pair of words for each kind of claim. Assumes nothing.

use Rattle.striking.proofs.write_claim.Goals as goal

pub returns-in-Open : goal.returns-in-Open
returns-in-Open c = rw (c.in-Open.is) (c.write_pair.ensures)

pub returns-in-Irreducible : goal.returns-in-Irreducible
returns-in-Irreducible c = rw (c.in-Irreducible.is) (c.write_pair-in-Irreducible.ensures)

pub returns-in-Least : goal.returns-in-Least
returns-in-Least c = rw (c.in-Least.is) (c.write_pair-in-Least.ensures)
