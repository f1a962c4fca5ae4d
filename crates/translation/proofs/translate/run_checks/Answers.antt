-- `run_checks` meets its contract: a law for each way to a return, by the form of the text. Assumes nothing.
use Rattle.translation.proofs.TranslationLaws.{translates_broken, translates_barred, translates_task}
use Rattle.translation.proofs.translate.run_checks.Goals as goal

pub returns-in-Err : goal.returns-in-Err
returns-in-Err c = translates_broken _ c.number_room-tape.ensures _ _ _ c.in-Err.ensures.outcome

pub returns-in-Some : goal.returns-in-Some
returns-in-Some c = translates_barred _ c.number_room-tape.ensures _ _ _ _ c.in-Ok.ensures.outcome _ c.in-Some.is

pub returns-in_default : goal.returns-in_default
returns-in_default c = translates_task _ c.number_room-tape.ensures _ _ _ _ c.in-Ok.ensures.outcome c.in_default.is _ _ c.write_task.ensures
