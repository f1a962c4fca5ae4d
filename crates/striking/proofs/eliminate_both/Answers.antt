-- `eliminate_both` meets its contract: what is written is what the service answers. Assumes nothing.
use Rattle.striking.proofs.StrikeLaws.{lent_both}
use Rattle.striking.proofs.eliminate_both.Goals as goal

pub returns-in-Ok : goal.returns-in-Ok
returns-in-Ok c = lent_both _ _ _ _ _ _ _ _ _ _ _ c.in-Ok.ensures c.write_both.ensures

pub returns-in-Err : goal.returns-in-Err
returns-in-Err c = lent_both _ _ _ _ _ _ _ _ _ _ _ c.in-Err.ensures (rw (c.new.ensures, c.new-in-Err.ensures) at c.write_both-in-Err.ensures)
