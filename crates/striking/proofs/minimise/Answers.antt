-- `minimise` meets its contract: what is written is what the service answers. Assumes nothing.
use Rattle.striking.proofs.StrikeLaws.{lent_left, lent_demand}
use Rattle.striking.proofs.minimise.Goals as goal

pub returns-in-Ok : goal.returns-in-Ok
returns-in-Ok c =
    let reduced = c.in-Ok.ensures in
    let writes = c.write_reduced.ensures in
    record { words = lent_left _ _ _ _ _ _ _ _ _ _ _ _ reduced.answer.answers writes; demand_three = lent_demand _ _ _ _ _ _ _ _ _ _ reduced.demand_three writes }

pub returns-in-Err : goal.returns-in-Err
returns-in-Err c =
    let reduced = c.in-Err.ensures in
    let writes = c.write_reduced-in-Err.ensures in
    record { words = lent_left _ _ _ _ _ _ _ _ _ _ _ _ reduced.answer.answers writes; demand_three = lent_demand _ _ _ _ _ _ _ _ _ _ reduced.demand_three writes }
