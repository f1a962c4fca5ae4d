-- `has` meets its contract: the entry as read. Assumes nothing.
use Rattle.fact_table.specs.Between.Tables.{has_fact}
use Rattle.fact_table.proofs.has.Goals as goal

pub returns : goal.returns
unfolding has_fact
returns c = rw (← c.get_or.ensures)
