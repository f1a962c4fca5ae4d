-- `new` meets its contract: no choice is held, and the memory has those of no step. Assumes nothing.
use Rattle.choice_rows.proofs.ChoiceMemoryLaws.{memory_empty}
use Rattle.choice_rows.proofs.rows.Choices.new.Goals as goal

pub invariant_of-result : goal.invariant_of-result
invariant_of-result c = rw c.none.ensures memory_empty
