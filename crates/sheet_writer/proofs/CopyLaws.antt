-- Words copied among others by the turns of a loop: nothing is left, or one more is. Assumes nothing.
use Prim.Native.Nat.{ℕ, suc, ◌+◌, ◌-◌, ◌≤◌, ◌<◌}
use native.Mathlib.Omega.{arith}
use mathlib.Core.Path.{◌≡◌}
use mathlib.Core.List.{List}
use lib.ListN.{set}
use lib.Seq.{sets}
use Rattle.refusal.proofs.PlaceLaws.{one_fewer, none_left}
use Rattle.sheet.specs.Decode.{table}

-- what f gives at the numbers from k to n, copied among words
module _ (f : ℕ → ℕ) (l : List ℕ) (at k n : ℕ) where
  pub copied_all : n ≤ k → sets l (at + k) (table f k (n - k)) ≡ l
  unfolding table
  copied_all past = rw (none_left k n past)

  pub copied_next : k < n → sets (set l (at + k) (f k)) (at + (k + 1)) (table f (k + 1) (n - (k + 1))) ≡ sets l (at + k) (table f k (n - k))
  unfolding table
  copied_next more = let next : at + (k + 1) ≡ suc (at + k) = omega arith in rw (one_fewer k n more, next)
