-- Rows by the cases of the code: a fact put into a row, and a row that is filled along facts. A fact past the last bit has none, so that to lay all facts is to
-- lay as many as a row has room for. Assumes nothing.
use Prim.Native.Nat.{ℕ, zero, suc, ◌/◌, ◌%◌, ◌^◌, ◌≤◌, ◌<◌}
use native.Mathlib.Nat.{pow-suc}
use native.Mathlib.Omega.{arith}
use mathlib.Core.Path.{◌≡◌, refl, sym}
use mathlib.Core.Bool.{true}
use mathlib.Core.List.{[], ◌∷◌}
use lib.ListN.{set, take}
use lib.Seq.{take-nil}
use borrow.Author.Tests.{lt-ltb, le-ltb, ne_eqb}
use Rattle.sas.specs.Task.{Assignment}
use Rattle.sheet.specs.Limits.{limits}
use Rattle.sheet.specs.Decode.{fact_of}
use Rattle.packed_state.specs.declared.packed.Row.{Row}
use Rattle.packed_state.specs.Between.Packed.{state_bytes}
use Rattle.choice_rows.specs.Between.Rows.{laid, laid_all, stamped_row}

module _ (row : Row) (bits x : ℕ) where
  -- a fact whose bit is one is put into the row
  pub laid_there : bits % 2 ≡ 1 → x / limits.values < state_bytes
      → record { asked = set row.asked (x / limits.values) true; values = set row.values (x / limits.values) (x % limits.values) } ≡ laid row bits (fact_of x)
  unfolding laid
  laid_there odd inside = rw (odd, lt-ltb (x / limits.values) state_bytes inside)

  -- one of a variable that there is no byte for is not
  pub laid_beyond : bits % 2 ≡ 1 → state_bytes ≤ x / limits.values → row ≡ laid row bits (fact_of x)
  unfolding laid
  laid_beyond odd beyond = rw (odd, le-ltb (x / limits.values) state_bytes beyond)

  -- and neither is one whose bit is zero
  pub laid_unasked : (bits % 2 ≡ 1 → ⊥) → row ≡ laid row bits (fact_of x)
  unfolding laid
  laid_unasked even = rw (ne_eqb (bits % 2) 1 even)

-- where no fact is left nothing is laid
pub laid_all_none : (row : Row) (bits : ℕ) (q : Assignment) → q ≡ [] → laid_all row bits q ≡ row
unfolding laid_all
laid_all_none row bits q none = rw none

-- and the first of those that are left is laid first
pub laid_all_first : (row : Row) (bits x : ℕ) (q later : Assignment) → q ≡ fact_of x ∷ later → laid_all row bits q ≡ laid_all (laid row bits (fact_of x)) (bits / 2) later
unfolding laid_all
laid_all_first row bits x q later first = rw first

-- where no bit is one nothing is laid either
laid_all_zero : (row : Row) (q : Assignment) → laid_all row 0 q ≡ row
unfolding laid_all laid
laid_all_zero row [] = refl
laid_all_zero row (f ∷ q) = laid_all_zero row q

-- a fact past the last bit is not laid
laid_all_front : (n : ℕ) (row : Row) (bits : ℕ) (q : Assignment) → bits < 2 ^ n → laid_all row bits (take n q) ≡ laid_all row bits q
unfolding laid_all
laid_all_front n row bits [] low = rw take-nil
laid_all_front zero row bits (f ∷ q) low = let none : bits ≡ 0 = omega arith in rw none (sym (laid_all_zero row (f ∷ q)))
laid_all_front (suc n) row bits (f ∷ q) low = laid_all_front n (laid row bits f) (bits / 2) q (omega (arith, pow-suc 2 n))

-- so all are laid where no more are left
pub row_filled : (row : Row) (bits : ℕ) (q : Assignment) → bits < 2 ^ 64 → laid_all row bits q ≡ stamped_row row bits q
row_filled row bits q low = sym (laid_all_front state_bytes row bits q low)
