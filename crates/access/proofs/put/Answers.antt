-- `put` meets its contract: a write past the end is no write. Assumes nothing.
use lib.Seq.{set_out}
use mathlib.Core.Path.{sym}
use Rattle.access.proofs.put.Goals as goal

pub returns-else-i-elements : goal.returns-else-i-elements
returns-else-i-elements g c = sym (set_out _ _ _ c.if-i-elements.false)
