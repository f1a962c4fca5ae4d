-- `choose` meets its contract: both turns from the first unflagged step on are the search. Assumes nothing.
use mathlib.Core.Path.{refl, ap}
use Rattle.choice_rows.specs.Between.Rows.{PlanChoices}
use Rattle.turns.proofs.TurnsLaws.{both_told}
use Rattle.search.proofs.BestLaws.{begins}
use Rattle.search.proofs.best.choose.Goals as goal

pub returns : goal.returns
returns c =
    let told = c.note_choices.ensures.told c.new-choices.ensures c.if-not-note_choices.false in
    let first = ap (λ (cs : PlanChoices). cs.start) c.choices.view_is in
    begins _ _ _ _ _ c.bits_behind-behind.ensures _ told _ _ c.start.ensures (rw first at c.write_over-state.ensures) _ _ _ c.tally_of.ensures refl refl
    (rw c.steps-steps.ensures.all at c.all_chosen.ensures) (rw c.steps-steps.ensures.all at (both_told _ _ _ _ _ _ c.keep.result c.strike-struck.ensures c.keep.ensures))
