-- `lay` meets its contract. Assumes nothing.
use mathlib.Core.Logic.{inl, inr}
use Rattle.choice_rows.proofs.StampRowLaws.{laid_there, laid_beyond, laid_unasked}
use Rattle.choice_rows.proofs.rows.lay.Goals as goal

pub returns-then-v-lt-STATE : goal.returns-then-v-lt-STATE
returns-then-v-lt-STATE c = laid_there _ _ _ c.if-bits-eq1.true c.if-v-lt-STATE.true

pub returns-else-bits-eq1 : goal.returns-else-bits-eq1
returns-else-bits-eq1 c = elim c.else-bits-eq1.either [ inl past ↦ laid_beyond _ _ _ past.0 past.1 | inr even ↦ laid_unasked _ _ _ even ]
