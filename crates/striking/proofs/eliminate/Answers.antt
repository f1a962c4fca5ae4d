-- `eliminate` meets its contract: what is written is what the service answers. Assumes nothing.
use Rattle.striking.proofs.StrikeLaws.{lent_left}
use Rattle.striking.proofs.eliminate.Goals as goal

pub returns : goal.returns
returns c =
    lent_left _ _ _ _ _ _ _ _ _ _ _ _ c.eliminate_plan.ensures
    c.write_reduced.ensures
