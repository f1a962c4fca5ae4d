-- `bad_in_actions` meets its contract. The loop's invariant: the search from a on finds what the whole search finds. Assumes nothing.
use mathlib.Core.Path.{◌≡◌}
use Rattle.refusal.specs.Place.{first_of}
use Rattle.sheet.specs.Layout.{actions}
use Rattle.sheet.specs.Causes.{action_place}
use Rattle.sheet_check.proofs.facts.bad_in_actions.Given as goal

abbrev pub invariant-loop-a : goal.invariant-loop-a
invariant-loop-a l = first_of (action_place l.w) l.a l.a-end ≡ first_of (action_place l.w) 0 (actions l.w)
