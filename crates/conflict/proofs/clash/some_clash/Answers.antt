-- `some_clash` meets its contract: where no effect has a neighbour, none clashes. Assumes nothing.
use mathlib.Core.Path.{sym, ◌∙◌}
use Rattle.conflict.proofs.ClashLaws.{none_neighbours, clash_of}
use Rattle.conflict.proofs.clash.some_clash.Goals as goal

pub returns-then-have_neighbours : goal.returns-then-have_neighbours
returns-then-have_neighbours c =
    let facts : _ = c.facts_of-facts.ensures in
    rw (c.each-effects.ensures, c.facts.ensures) at c.find_clash.ensures ∙ clash_of _ _ _ _ facts.0 facts.1

pub returns-else-have_neighbours : goal.returns-else-have_neighbours
returns-else-have_neighbours c =
    let facts : _ = c.facts_of-facts.ensures in
    c.if-have_neighbours.false
    ∙ sym (none_neighbours _ _ (rw c.each-effects.ensures at (sym c.have_neighbours.ensures ∙ c.if-have_neighbours.false))) ∙ clash_of _ _ _ _ facts.0 facts.1
