-- `note` meets its contract. Assumes nothing.
use Rattle.choice_rows.proofs.ChoosingLaws.{choice_made}
use Rattle.choice_rows.proofs.rows.Choice.note.Goals as goal

pub returns : goal.returns
returns c =
    choice_made _ _ _ _ _ c.facts_of-facts.ensures.0 c.facts_of-facts.ensures.1 c.cost-self.ensures.0 c.args.self.now c.requires _ _ _ _
    (rw c.facts.ensures at c.stamp.ensures) (rw c.facts-2.ensures at c.stamp-2.ensures) (rw c.facts-3.ensures at c.stamp-3.ensures)
    (rw c.facts-4.ensures at c.stamp-4.ensures)
