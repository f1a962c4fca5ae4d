-- `unknown_action` meets its contract. The loop's invariant: the search from i on finds what the whole search finds. Assumes nothing.
use mathlib.Core.Path.{◌≡◌}
use Prim.Native.Nat.{◌+◌, ◌-◌}
use lib.ListN.{length, get_or}
use lib.Dec.{leb}
use Rattle.refusal.specs.Place.{when, first_of}
use Rattle.sheet.specs.Layout.{actions}
use Rattle.plan.specs.Checked.{unknown_place}
use Rattle.plan.proofs.list.unknown_action.Given as goal

abbrev pub invariant-loop-i : goal.invariant-loop-i
invariant-loop-i l = first_of (λ k. when (leb (actions l.words) (get_or l.plan k 0)) (k + 1)) l.i (length l.plan) ≡ unknown_place l.words l.plan
