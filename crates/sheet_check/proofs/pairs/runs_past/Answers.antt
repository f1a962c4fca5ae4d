-- `runs_past` meets its contract. Assumes nothing.
use Rattle.sheet_check.proofs.PastLaws.{past_told}
use Rattle.sheet_check.proofs.pairs.runs_past.Goals as goal

pub returns : goal.returns
returns c = past_told _ _ _ _ _ c.saturating_sub.ensures c.number.ensures.0
