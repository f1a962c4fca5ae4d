-- The offset due in a pair, by whether it is the first, and the place of cause 4, by whether the pairs fit. Assumes nothing.
use Rattle.std.specs.Prelude.{Some}
use Prim.Native.Nat.{ℕ, ◌-◌, ◌≤◌, ◌<◌}
use mathlib.Core.Path.{◌≡◌}
use mathlib.Core.List.{List}
use borrow.Author.Tests.{eq-eqb, ne_eqb, lt-ltb, le-ltb}
use Rattle.refusal.specs.Place.{first}
use Rattle.sheet.specs.Layout.{pairs, pairs_end, part_end, stated_length}
use Rattle.sheet.specs.Causes.{due, bad_pair, pair_place}

pub due_first : (w : List ℕ) (k : ℕ) → k ≡ 0 → due w k ≡ pairs_end w
unfolding due
due_first w k e = rw (eq-eqb k 0 e, due)

pub due_later : (w : List ℕ) (k : ℕ) → (k ≡ 0 → ⊥) → due w k ≡ part_end w (k - 1)
unfolding due
due_later w k e = rw (ne_eqb k 0 e, due)

pub pairs_unfit : (w : List ℕ) → stated_length w < pairs_end w → pair_place w ≡ Some 0
unfolding pair_place
pairs_unfit w h = rw (lt-ltb _ _ h)

pub pairs_fit : (w : List ℕ) → pairs_end w ≤ stated_length w → pair_place w ≡ first (bad_pair w) 0 (pairs w)
unfolding pair_place
pairs_fit w h = rw (le-ltb _ _ h)
