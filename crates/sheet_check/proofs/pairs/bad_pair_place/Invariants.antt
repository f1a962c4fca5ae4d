-- `bad_pair_place` meets its contract. The loop's invariant: the search from k on finds what the whole search finds. Assumes nothing.
use mathlib.Core.Path.{◌≡◌}
use Rattle.refusal.specs.Place.{first}
use Rattle.sheet.specs.Causes.{bad_pair, pair_place}
use Rattle.sheet_check.proofs.pairs.bad_pair_place.Given as goal

abbrev pub invariant-loop-k : goal.invariant-loop-k
invariant-loop-k l = first (bad_pair l.w) l.k l.k-end ≡ pair_place l.w
