-- A bit as the code reads it. Assumes nothing.
use Prim.Native.Nat.{ℕ, ◌/◌, ◌%◌, ◌^◌, ◌≤◌}
use native.Mathlib.Nat.{zero-div}
use native.Mathlib.Omega.{arith}
use mathlib.Core.Path.{◌≡◌, refl}
use mathlib.Core.Bool.{false}
use mathlib.Core.List.{List}
use lib.ListN.{length, get_or, get_or-eq_default}
use lib.Dec.{eqb}
use Rattle.mask.specs.Mask.{mask_length, word_bits, bit_up}

module _ (ws : List ℕ) (i : ℕ) where
  pub bit_read : eqb (get_or ws (i / word_bits) 0 / 2 ^ (i % word_bits) % 2) 1 ≡ bit_up ws i
  unfolding bit_up
  bit_read = refl

  pub none_up : length ws ≡ mask_length → mask_length ≤ i / word_bits → false ≡ bit_up ws i
  unfolding bit_up
  none_up four past = rw (get_or-eq_default ws 0 {n = i / word_bits} (omega arith), zero-div)
