-- `flags_left` meets its contract: one elimination, or the other. Assumes nothing.
use mathlib.Core.Path.{◌∙◌}
use Rattle.elimination.proofs.single.flags_left.Goals as goal

pub returns-in-Plain : goal.returns-in-Plain
returns-in-Plain c = c.eliminate.ensures ∙ rw c.in-Plain.is

pub returns-in-Greedy : goal.returns-in-Greedy
returns-in-Greedy c = c.greedy.ensures ∙ rw c.in-Greedy.is
