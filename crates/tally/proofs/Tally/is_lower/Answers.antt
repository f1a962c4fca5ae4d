-- `is_lower` meets its contract: of what the comparison answers. Assumes nothing.
use Rattle.tally.proofs.Tally.is_lower.Goals as goal

pub returns : goal.returns
returns c = rw (← c.compare.ensures) c.is_lt.ensures
