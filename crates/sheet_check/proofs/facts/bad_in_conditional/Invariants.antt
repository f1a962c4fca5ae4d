-- `bad_in_conditional` meets its contract. The loop's invariant: the search of the effects that are left finds what the whole search finds, and each stands before
-- the end. Assumes nothing.
use Prim.Native.Nat.{ℕ, ◌<◌}
use mathlib.Core.Path.{◌≡◌}
use mathlib.Core.List.{Memᴰ}
use Rattle.sheet.specs.Causes.{effect_place, first_in}
use Rattle.sheet.specs.Between.Effects.{places_left}
use Rattle.sheet_check.proofs.facts.bad_in_conditional.Given as goal

abbrev pub invariant-loop-i : goal.invariant-loop-i
invariant-loop-i l = (goal.iterator-loop-i.can_next l.i-iterator × goal.iterator-loop-i.is_finite l.i-iterator)
    × (first_in (effect_place l.w l.from l.end) (places_left l.i-iterator) ≡ first_in (effect_place l.w l.from l.end) (places_left l.initial.i-iterator))
    × ((k : ℕ) → Memᴰ k (places_left l.i-iterator) → k < l.end)
