-- `hollchiku_tally_compare` meets its contract: the number of what the comparison answers. Assumes nothing.
use Rattle.exports.proofs.hollchiku_tally_compare.Goals as goal

pub returns-in-Less : goal.returns-in-Less
returns-in-Less c = rw (← c.compare.ensures, c.in-Less.is)

pub returns-in-Equal : goal.returns-in-Equal
returns-in-Equal c = rw (← c.compare.ensures, c.in-Equal.is)

pub returns-in-Greater : goal.returns-in-Greater
returns-in-Greater c = rw (← c.compare.ensures, c.in-Greater.is)
