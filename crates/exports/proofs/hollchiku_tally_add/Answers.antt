-- `hollchiku_tally_add` meets its contract: what is written is the tally with one step more. Assumes nothing.

use Rattle.exports.proofs.hollchiku_tally_add.Goals as goal

pub returns : goal.returns
returns c = rw (← c.add-after.ensures) c.write_pair.ensures
