-- `write_answer` meets its contract: two pairs of words, one behind the other, for each kind of answer. Assumes nothing.

use Rattle.lent.proofs.write_answer.Goals as goal

pub returns-in-Ok : goal.returns-in-Ok
returns-in-Ok c =
    rw
    (c.in-Ok.is, ← c.write_pair.ensures) c.write_pair-in-Ok.ensures

pub returns-in-Err : goal.returns-in-Err
returns-in-Err c =
    rw
    (c.in-Err.is, ← c.number.ensures, ← c.place.ensures, ← c.write_pair-in-Err.ensures)
    c.write_pair-in-Err-2.ensures
