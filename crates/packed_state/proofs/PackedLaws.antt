-- A row tested in a state and written over it, by the cases of the loops along the variables. Assumes nothing.
use Prim.Native.Nat.{ℕ, zero, suc, ◌+◌, ◌≤◌, ◌<◌}
use native.Mathlib.Nat.{zero-add, add-zero}
use native.Mathlib.Numerals.{add-one}
use native.Mathlib.Omega.{arith}
use mathlib.Core.Path.{◌≡◌, refl, sym, ◌∙◌, ap}
use mathlib.Core.List.{List}
use lib.ListN.{length, get_or}
use lib.Seq.{ext_get_or}
use mathlib.Core.Bool.{◌&&◌}
use Rattle.packed_state.specs.declared.packed.Row.{Row}
use Rattle.packed_state.specs.Between.Packed.{state_bytes, asks_at, value_at, meeting, taking, has_first, written_from, written_over}

module _ (row : Row) (state : List ℕ) where
  -- one more variable has its value, or has not
  pub has_more : (v : ℕ) → has_first row state (v + 1) ≡ (has_first row state v && meeting (asks_at row v) (value_at row v) (get_or state v 0))
  unfolding has_first
  has_more v = rw add-one

  from_length : (v n : ℕ) → length (written_from row state v n) ≡ n
  unfolding written_from
  from_length v zero = refl
  from_length v (suc n) = ap suc (from_length (v + 1) n)

  from_at : (v n k : ℕ) → k < n → get_or (written_from row state v n) k 0 ≡ taking (asks_at row (v + k)) (value_at row (v + k)) (get_or state (v + k) 0)
  unfolding written_from
  from_at v zero k below = absurd (omega arith)
  from_at v (suc n) zero below = rw (add-zero v)
  from_at v (suc n) (suc k) below = let next : v + suc k ≡ v + 1 + k = omega arith in rw next (from_at (v + 1) n k (omega arith))

  pub over_length : length (written_over row state) ≡ state_bytes
  over_length = from_length 0 state_bytes

  -- each variable has the row's value where it is asked for, and its own otherwise
  pub over_at : (v : ℕ) → v < state_bytes → get_or (written_over row state) v 0 ≡ taking (asks_at row v) (value_at row v) (get_or state v 0)
  over_at v below = rw zero-add at (from_at 0 state_bytes v below)

  -- the row is written over the first v variables
  pub record Writing (next : List ℕ) (v : ℕ) : Type 0 where
    pub sized : length next ≡ state_bytes
    pub done : (k : ℕ) → k < v → get_or next k 0 ≡ taking (asks_at row k) (value_at row k) (get_or state k 0)
    pub left : (k : ℕ) → v ≤ k → get_or next k 0 ≡ get_or state k 0

  module _ (next : List ℕ) (v : ℕ) (so_far : Writing next v) where
    -- all are written
    pub writing_end : state_bytes ≤ v → next ≡ written_over row state
    writing_end all =
        ext_get_or 0 next (written_over row state) (so_far.sized ∙ sym over_length)
        (λ k h. so_far.done k (omega (arith, so_far.sized)) ∙ sym (over_at k (omega (arith, so_far.sized))))
