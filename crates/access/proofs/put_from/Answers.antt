-- `put_from` meets its contract, by whether there is any room. Assumes nothing.
use native.Mathlib.Omega.{arith}
use Rattle.std.proofs.Common.{sym}
use Rattle.access.proofs.StoreLaws.{stored_past, stored_behind}
use Rattle.access.proofs.put_from.Goals as goal

pub returns-then-at-elements : goal.returns-then-at-elements
returns-then-at-elements g c = stored_behind c.args.elements.now c.args.values.now _ c.args.at (omega arith) c.put_all.ensures

pub returns-else-at-elements : goal.returns-else-at-elements
returns-else-at-elements g c = sym (stored_past c.args.elements.now c.args.values.now c.args.at c.if-at-elements.false)
