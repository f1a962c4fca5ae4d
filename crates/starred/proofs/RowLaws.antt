-- What the rows of the tables rest on: proofs of one row after the other, and the positions of the steps that a reduction keeps, which are computed and are
-- just those of its kept steps, by list induction, with the first position a variable. Assumes nothing.
use Prim.Native.Nat.{ℕ, zero, suc, ◌+◌, ◌≤◌}
use native.Mathlib.Omega.{arith}
use native.Mathlib.Nat.{zero-add}
use mathlib.Core.Path.{refl}
use mathlib.Core.Bool.{true, false, false≢true}
use mathlib.Core.List.Memᴰ
use mathlib.Core.List.{List, [], ◌∷◌, Memᴰ}
use Rattle.reduction.specs.Reduction.{Reduction, keeps}
use Rattle.starred.specs.Rows.{JustAt}

infixr 4 ◌also◌
pub ◌also◌ : {A B : Type 0} → A → B → A × B
x also y = (x, y)

-- the positions of the kept steps, where the first stands at k
unfoldable pub positions_from : ℕ → Reduction → List ℕ
positions_from k [] = []
positions_from k (true ∷ m) = k ∷ positions_from (suc k) m
positions_from k (false ∷ m) = positions_from (suc k) m

kept_listed : (k : ℕ) (m : Reduction) (i : ℕ) → keeps m i → Memᴰ (i + k) (positions_from k m)
unfolding positions_from
kept_listed k [] i h = absurd (false≢true h)
kept_listed k (true ∷ m) zero h = Memᴰ.head (zero-add k)
kept_listed k (false ∷ m) zero h = absurd (false≢true h)
kept_listed k (true ∷ m) (suc i) h = Memᴰ.tail (Memᴰ.cast (omega arith) (kept_listed (suc k) m i h))
kept_listed k (false ∷ m) (suc i) h = Memᴰ.cast (omega arith) (kept_listed (suc k) m i h)

listed_past : {j : ℕ} (k : ℕ) (m : Reduction) → Memᴰ j (positions_from k m) → k ≤ j
unfolding positions_from
listed_past k [] d = absurd (Memᴰ.not-nil d)
listed_past k (true ∷ m) (Memᴰ.head e) = omega arith
listed_past k (true ∷ m) (Memᴰ.tail d) = omega (arith, listed_past (suc k) m d)
listed_past k (false ∷ m) d = omega (arith, listed_past (suc k) m d)

listed_kept : (k : ℕ) (m : Reduction) (i : ℕ) → Memᴰ (i + k) (positions_from k m) → keeps m i
unfolding positions_from
listed_kept k [] i d = absurd (Memᴰ.not-nil d)
listed_kept k (true ∷ m) zero d = refl
listed_kept k (false ∷ m) zero d = absurd (omega (arith, listed_past (suc k) m d))
listed_kept k (true ∷ m) (suc i) (Memᴰ.head e) = absurd (omega arith)
listed_kept k (true ∷ m) (suc i) (Memᴰ.tail d) = listed_kept (suc k) m i (Memᴰ.cast (omega arith) d)
listed_kept k (false ∷ m) (suc i) d = listed_kept (suc k) m i (Memᴰ.cast (omega arith) d)

-- a reduction keeps just the steps at its positions
pub kept_just : (m : Reduction) → JustAt (positions_from 1 m) (keeps m)
kept_just m i = (kept_listed 1 m i, listed_kept 1 m i)
