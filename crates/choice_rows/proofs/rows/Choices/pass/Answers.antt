-- `pass` meets its contract, by whether there is a choice. Assumes nothing.
use native.Mathlib.Omega.{arith}
use Rattle.choice_rows.proofs.ChoiceMemoryLaws.{memory_passed, memory_started}
use Rattle.choice_rows.proofs.rows.Choices.pass.Goals as goal

pub returns-then-self-eq0 : goal.returns-then-self-eq0
returns-then-self-eq0 c = rw (← c.self.view_is) (memory_started _ _ c.self.invariant c.if-self-eq0.true _ _ _ (rw c.facts.ensures at c.stamp.ensures))

pub returns-else-self-eq0 : goal.returns-else-self-eq0
returns-else-self-eq0 c = rw (← c.self.view_is) (memory_passed _ _ c.self.invariant (omega (arith, c.if-self-eq0.false)) _ _ _ _ c.pass.ensures)
