-- `raise_marked` meets its contract, by the flag. Assumes nothing.

use Rattle.landmark.proofs.rows.raise_marked.Goals as goal

pub returns-then-get_or : goal.returns-then-get_or
returns-then-get_or c = rw (← c.get_or.ensures, c.if-get_or.true) c.raise_row.ensures

pub returns-else-get_or : goal.returns-else-get_or
returns-else-get_or c = rw (← c.get_or.ensures, c.if-get_or.false)
