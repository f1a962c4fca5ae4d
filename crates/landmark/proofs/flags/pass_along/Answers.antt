-- `pass_along` meets its contract: the two walks, from the tables as they begin, make a pass. Assumes nothing.
use Rattle.landmark.proofs.PassTheorem.{pass_made}
use Rattle.landmark.proofs.flags.pass_along.Goals as goal

pub returns : goal.returns
returns c =
    λ readable up.
    pass_made _ _ readable _ up _ _ _ _ _ _ _ _ c.walk-arg-2-1.given.0.1 c.start-latest.ensures c.walk.ensures c.goal.ensures
    (rw (← c.facts.ensures) c.note.ensures) c.close.ensures
