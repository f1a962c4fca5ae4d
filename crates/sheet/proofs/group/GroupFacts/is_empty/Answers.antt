-- `is_empty` meets its contract. Assumes nothing.
use Rattle.sheet.proofs.GroupLaws.{group_empty}
use Rattle.sheet.proofs.group.GroupFacts.is_empty.Goals as goal

pub returns : goal.returns
returns c = group_empty _ _
