-- `eliminate_cheaper` meets its contract: what is written is what the service answers. Assumes nothing.
use Rattle.striking.proofs.StrikeLaws.{lent_left}
use Rattle.striking.proofs.eliminate_cheaper.Goals as goal

pub returns : goal.returns
returns c =
    lent_left _ _ _ _ _ _ _ _ _ _ _ _ c.cheaper_left.ensures
    c.write_reduced.ensures
