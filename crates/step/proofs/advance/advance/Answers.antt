-- `advance` meets its contract: the action is done just where the test of its precondition finds no failing fact. Assumes nothing.
use mathlib.Core.Path.{sym, ◌∙◌}
use Rattle.step.proofs.AdvanceLaws.{advances_not, advances_done}
use Rattle.step.proofs.advance.advance.Goals as goal

pub returns-then-is_some : goal.returns-then-is_some
returns-then-is_some c =
    advances_not _ _ _ _ _ c.facts_of-facts.ensures.0 (rw (← c.facts.ensures) c.find_failing.ensures) (sym c.is_some.ensures ∙ c.if-is_some.true)

pub returns : goal.returns
returns c =
    let facts : _ = c.facts_of-facts.ensures in
    advances_done _ _ _ _ _ facts.0 (rw (← c.facts.ensures) c.find_failing.ensures) _ _ (sym c.is_some.ensures ∙ c.if-is_some.false) facts.1 c.write_effects.ensures
