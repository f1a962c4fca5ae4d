-- `get_or` meets its contract: past the end the default is read. Assumes nothing.
use lib.ListN.{get_or-eq_default}
use mathlib.Core.Path.{sym}
use Rattle.access.proofs.get_or.Goals as goal

pub returns-else-i-elements : goal.returns-else-i-elements
returns-else-i-elements g c = sym (get_or-eq_default c.args.elements.now c.args.absent c.if-i-elements.false)
