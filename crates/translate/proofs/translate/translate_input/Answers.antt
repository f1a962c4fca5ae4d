-- `translate_input` meets its contract: where a read failed, that is said. Assumes nothing.
use Rattle.translate.proofs.translate.translate_input.Goals as goal

pub returns-in-None-clause-has_translated : goal.returns-in-None-clause-has_translated
returns-in-None-clause-has_translated g c = record { read = c.read_input-input.ensures; gives = rw c.in-None.is (c.refuse-answer.ensures _) }
