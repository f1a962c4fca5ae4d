-- `note_choices` meets its contract. The loop's invariant: the steps before the index are noted. Assumes nothing.
use mathlib.Core.Path.{◌≡◌}
use Rattle.choice_rows.specs.Between.Rows.{no_choices}
use Rattle.choice_rows.proofs.ChoosingLaws.{Choosing}
use Rattle.choice_rows.proofs.rows.note_choices.Given as goal

abbrev pub invariant-loop-i : goal.invariant-loop-i
invariant-loop-i l = l.initial.choices ≡ no_choices → Choosing l.words l.plan l.flags l.behind l.choices l.i
