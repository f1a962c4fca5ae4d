-- `minimal` meets its contract: what is unpacked of the choices found is the minimal reduction. Assumes nothing.
use Rattle.search.proofs.BestLaws.{finds}
use Rattle.search.proofs.best.minimal.Goals as goal

pub returns : goal.returns
returns c = finds _ _ _ _ _ _ c.choose.ensures c.unpack.ensures
