-- `read_text` meets its contract, by what reading the text finds. Assumes nothing.
use mathlib.Core.Path.{refl}
use Rattle.words.proofs.FoundLaws.{words_lent, error_lent}
use Rattle.words.proofs.read_text.Goals as goal

pub returns-in-Ok : goal.returns-in-Ok
returns-in-Ok c = words_lent _ _ refl _ _ _ c.in-Ok.ensures c.front-read.ensures c.put_all.ensures c.put_all-in-Ok.ensures

pub returns-in-Err : goal.returns-in-Err
returns-in-Err c = error_lent _ _ refl _ _ c.in-Err.ensures c.told.ensures c.put_all-in-Err.ensures
