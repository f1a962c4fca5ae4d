-- `write_verdict` meets its contract, by whether the verdict is a refusal. Assumes nothing.

use Rattle.lent.proofs.write_verdict.Goals as goal

pub returns-in-Ok : goal.returns-in-Ok
returns-in-Ok c = rw c.in-Ok.is c.write_pair.ensures

pub returns-in-Err : goal.returns-in-Err
returns-in-Err c =
    rw
    (c.in-Err.is, ← c.number.ensures, ← c.place.ensures)
    c.write_pair-in-Err.ensures
