-- `note_choices` meets its contract. The loop's invariant: the steps before the index are noted. Assumes nothing.
use mathlib.Core.Path.{sym, ◌∙◌}
use Rattle.choice_rows.proofs.ChoosingLaws.{choosing_start, flagged_more, unflagged_more, too_many}
use Rattle.choice_rows.proofs.rows.note_choices.Goals.{then-get_or, else-get_or+else-not-push}
use Rattle.choice_rows.proofs.rows.note_choices.Goals as goal

pub loop-i-init : goal.loop-i-init
loop-i-init c none = choosing_start _ _ _ _ _ none

pub returns-then-not-push-clause-many : goal.returns-then-not-push-clause-many
returns-then-not-push-clause-many c none _ =
    too_many _ _ _ _ _ _ (c.loop-i.invariant none) (sym c.get_or.ensures ∙ c.if-get_or.false) (sym c.push.ensures.room ∙ c.if-not-push.true) c.loop-i-test.true

pub loop-i-preserved : goal.loop-i-preserved
loop-i-preserved c none =
    elim c.if-get_or.branch [
      | then-get_or w ↦ rw w.choices-is
          (flagged_more _ _ _ _ _ _ (c.loop-i.invariant none) (sym c.get_or.ensures ∙ w.if-get_or.true) _ w.facts_of.ensures.1 _ w.pass.ensures)
      | else-get_or+else-not-push w ↦ rw w.choices-is
          (unflagged_more _ _ _ _ _ _ (c.loop-i.invariant none) (sym c.get_or.ensures ∙ w.if-get_or.false) (sym w.push.ensures.room ∙ w.if-not-push.false) _
          (rw w.get_or-else-get_or.ensures at w.push.ensures.adds))
    ]
