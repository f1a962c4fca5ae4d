-- `facts_of` meets its contract: offset, header, number of precondition facts and length, each as read. Assumes nothing.

use Rattle.sheet.proofs.group.facts_of.Goals as goal

pub returns : goal.returns
returns c =
    let from = c.offset-from.ensures.0 in
    let many = c.number.ensures.0 in
    (rw (many, from), rw (many, c.size.ensures.0, c.has_conditions.ensures, from))
