-- `pass` meets its contract. Assumes nothing.
use Rattle.choice_rows.proofs.ChoosingLaws.{passed_stamped}
use Rattle.choice_rows.proofs.rows.Choice.pass.Goals as goal

pub returns : goal.returns
returns c = passed_stamped _ _ _ _ (rw c.facts.ensures at c.stamp.ensures) (rw c.facts-2.ensures at c.stamp-2.ensures)
