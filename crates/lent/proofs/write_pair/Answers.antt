-- `write_pair` meets its contract: the two stores are a run. Assumes nothing.
use native.Mathlib.Numerals.{add-one}
use Rattle.lent.proofs.write_pair.Goals as goal

pub returns : goal.returns
returns c = cc (add-one c.args.at)
