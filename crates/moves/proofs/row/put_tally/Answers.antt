-- `put_tally` meets its contract: the two stores are a run. Assumes nothing.
use native.Mathlib.Numerals.{add-one}
use Rattle.moves.proofs.row.put_tally.Goals as goal

pub returns : goal.returns
returns c = cc (add-one c.args.at)
