-- `bad_variable_place` meets its contract. The loop's invariant: the search from v on finds what the whole search finds. Assumes nothing.
use mathlib.Core.Path.{◌≡◌}
use Rattle.refusal.specs.Place.{first}
use Rattle.sheet.specs.Causes.{bad_variable, variable_place}
use Rattle.sheet_check.proofs.variables.bad_variable_place.Given as goal

abbrev pub invariant-loop-v : goal.invariant-loop-v
invariant-loop-v l = first (bad_variable l.w) l.v l.v-end ≡ variable_place l.w
