-- `first_clash` meets its contract. The loop's invariant: the search from a on finds what the whole search finds. Assumes nothing.
use mathlib.Core.Path.{◌≡◌}
use Rattle.refusal.specs.Place.{first}
use Rattle.conflict.specs.Between.Clash.{clash_in, clash_place}
use Rattle.conflict.proofs.find.first_clash.Given as goal

abbrev pub invariant-loop-a : goal.invariant-loop-a
invariant-loop-a l = first (clash_in l.w) l.a l.a-end ≡ clash_place l.w
