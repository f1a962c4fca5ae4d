-- `bad_cost_place` meets its contract. The loop's invariant: the search from a on finds what the whole search finds. Assumes nothing.
use mathlib.Core.Path.{◌≡◌}
use Rattle.refusal.specs.Place.{first}
use lib.Dec.{ltb}
use Rattle.sheet.specs.Limits.{limits}
use Rattle.sheet.specs.Layout.{cost_word}
use Rattle.sheet.specs.Causes.{cost_place}
use Rattle.sheet_check.proofs.costs.bad_cost_place.Given as goal

abbrev pub invariant-loop-a : goal.invariant-loop-a
invariant-loop-a l = first (λ k. ltb limits.cost (cost_word l.w k)) l.a l.a-end ≡ cost_place l.w
