-- Words stored over others: stores that do not meet may change places, so that parts laid one after the other, each with its pair, are all parts with all
-- pairs. By induction on what is stored. Assumes nothing.
use Prim.Native.Nat.{ℕ, suc, ◌+◌, ◌-◌, ◌*◌, ◌≤◌, ◌<◌}
use native.Mathlib.Omega.{arith}
use mathlib.Core.Path.{◌≡◌, refl, sym, ◌∙◌, ap}
use mathlib.Core.List.{List, [], ◌∷◌, ◌++◌, flatten}
use lib.ListN.{length, set, length-append}
use lib.Seq.{sets, set_comm}
use Rattle.sheet.specs.Layout.{header}
use Rattle.sheet.specs.Between.Encode.{pairs_of}
use Rattle.sheet.proofs.LaidLaws.{pairs_of_length}
use Rattle.access.proofs.StoreLaws.{stores_joined}
use Rattle.sheet_writer.specs.Between.Laid.{laid}

store_apart : (w : List ℕ) (i x j : ℕ) (b : List ℕ) → i < j → sets (set w i x) j b ≡ set (sets w j b) i x
store_apart w i x j [] before = refl
store_apart w i x j (y ∷ b) before = rw (set_comm w i j x y (λ e. omega arith)) (store_apart (set w j y) i x (suc j) b (omega arith))

pub stores_apart : (w : List ℕ) (i : ℕ) (a : List ℕ) (j : ℕ) (b : List ℕ) → i + length a ≤ j → sets (sets w i a) j b ≡ sets (sets w j b) i a
stores_apart w i [] j b before = refl
stores_apart w i (x ∷ a) j b before =
    stores_apart (set w i x) (suc i) a j b (omega arith) ∙ ap (λ l. sets l (suc i) a) (store_apart w i x j b (omega arith))

laid_none : (k at : ℕ) (w : List ℕ) → laid k at [] w ≡ w
unfolding laid pairs_of flatten
laid_none k at w = refl

-- a part stored, and its pair: what is left to be laid out is laid out behind them
laid_next : (k at end : ℕ) (p : List ℕ) (ps : List (List ℕ)) (w : List ℕ) → end ≡ at + length p → header + 2 * (k + 1 + length ps) ≤ at
    → laid (k + 1) end ps (sets (sets w at p) (header + 2 * k) (at ∷ (end - at) ∷ [])) ≡ laid k at (p ∷ ps) w
unfolding laid pairs_of flatten
laid_next k at end p ps w ends apart =
    let sized : end - at ≡ length p = omega arith in
    let rest : List ℕ = pairs_of (at + length p) ps in
    let pair : List ℕ = at ∷ length p ∷ [] in
    let next : header + 2 * (k + 1) ≡ header + 2 * k + 2 = omega arith in
    let clear : header + 2 * k + length (pair ++ rest) ≤ at = omega (arith, pairs_of_length (at + length p) ps) in
    rw (
      sized,
      ends,
      next,
      stores_joined (sets w at p) pair rest (header + 2 * k),
      ← stores_apart w (header + 2 * k) (pair ++ rest) at p clear,
      stores_joined (sets w (header + 2 * k) (pair ++ rest)) p (flatten ps) at,
    )

-- parts that are laid out one after the other, the first of all at pair `first` and word `at`: what is left of them, laid from pair k and word `to` on over the
-- words as they are now, makes what all of them make
module _ (first at : ℕ) (all : List (List ℕ)) (before : List ℕ) where
  pub record Laying (left : List (List ℕ)) (k to : ℕ) (w : List ℕ) : Type 0 where
    pub end : to + length (flatten left) ≡ at + length (flatten all)
    pub written : laid k to left w ≡ laid first at all before

  pub laying_all : Laying all first at before
  laying_all = record { end = refl; written = refl }

  -- a part is stored, and its pair
  pub laying_part : (p : List ℕ) (ps : List (List ℕ)) (k to end : ℕ) (w after : List ℕ) → Laying (p ∷ ps) k to w → end ≡ to + length p
      → header + 2 * (k + 1 + length ps) ≤ to → after ≡ sets (sets w to p) (header + 2 * k) (to ∷ (end - to) ∷ []) → Laying ps (k + 1) end after
  unfolding flatten
  laying_part p ps k to end w after laying ends apart paired =
      record {
        end = omega (arith, length-append p (flatten ps), laying.end);
        written = rw paired (laid_next k to end p ps w ends apart ∙ laying.written);
      }

  -- nothing is left
  pub laying_none : (k to : ℕ) (w : List ℕ) → Laying [] k to w → (to ≡ at + length (flatten all)) × (w ≡ laid first at all before)
  unfolding flatten
  laying_none k to w laying = (omega (arith, laying.end), sym (laid_none k to w) ∙ laying.written)
