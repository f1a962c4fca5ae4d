-- `new` meets its contract: each tally is that of no step. Assumes nothing.

use Rattle.moves.proofs.tallies.Tallies.new.Goals as goal

pub returns : goal.returns
returns c = rw (c.new.ensures, c.new-2.ensures, c.new-3.ensures)
