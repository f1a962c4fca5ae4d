-- `open_record` meets its contract, by what is found of the input. Assumes nothing.
use native.Mathlib.Omega.{arith}
use Rattle.words.proofs.FoundLaws.{refusal_lent, record_lent}
use Rattle.words.proofs.open_record.Goals as goal

pub returns-in-Err : goal.returns-in-Err
returns-in-Err c = refusal_lent _ _ _ _ c.in-Err.ensures.opens c.number.ensures c.place.ensures c.put_all.ensures

pub returns-in-Ok : goal.returns-in-Ok
returns-in-Ok c = record_lent _ c.in-Ok.extent _ _ _ _ _ c.in-Ok.ensures.opens (omega arith) c.in-Ok.ensures.fills c.task_words-sheet.ensures c.plan_words-list.ensures c.front.ensures c.put_all-in-Ok.ensures c.put_all-in-Ok-2.ensures
