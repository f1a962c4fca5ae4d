-- The bits of some facts, from the first on, by the cases of the loop that packs them: what is packed and what is still to come are the whole. Assumes nothing.
use Prim.Native.Nat.{ℕ, ◌+◌, ◌-◌, ◌*◌, ◌%◌, ◌^◌, ◌≤◌, ◌<◌}
use native.Mathlib.Nat.{add-zero, mul-add, mul_comm, mul_assoc, mul-zero, one-mul, zero-add, pow-zero, pow-suc}
use native.Mathlib.Numerals.{add-one}
use native.Mathlib.Omega.{arith}
use mathlib.Core.Path.{◌≡◌, refl}
use mathlib.Core.Bool.{Bool, true, false, cond}
use mathlib.Core.List.{List, [], ◌∷◌}
use lib.ListN.{take}
use lib.Seq.{take-nil}
use lib.Bits.{bit_or, or_shifted_r, or_zero_r}
use lib.Pow.{shl_exact}
use lib.Dec.{ltb}
use borrow.Author.Tests.{ltb-true, ltb-false}
use Rattle.sas.specs.Task.{Assignment}
use Rattle.mask.specs.Mask.{word_bits, digit, binary}
use Rattle.sheet.specs.Decode.{fact_of}
use Rattle.sheet.proofs.FactWords.{word_of_fact}
use Rattle.fact_table.specs.Between.Tables.{has_fact}
use Rattle.fact_bits.specs.Between.Bits.{flagged, packed}

module _ (t : List Bool) where
  -- the number that the first n facts make
  abbrev pub to_come : ℕ → Assignment → ℕ
  to_come n q = binary (take n (flagged t q))

  first_next : (n x : ℕ) (later : Assignment) → to_come (n + 1) (fact_of x ∷ later) ≡ 2 * to_come n later + digit (has_fact t x)
  unfolding binary
  first_next n x later = rw (add-one, word_of_fact x)

  -- the facts before a place are packed, and `rest` is what is left of all
  pub record Packing (all rest : Assignment) (bits bit : ℕ) : Type 0 where
    pub place : ℕ
    pub room : place ≤ word_bits
    pub weight : place < word_bits → bit ≡ 2 ^ place
    pub spent : word_bits ≤ place → bit ≡ 0
    pub below : bits < 2 ^ place
    pub whole : bits + 2 ^ place * to_come (word_bits - place) rest ≡ packed t all

  module _ (all : Assignment) where
    -- no fact is packed
    pub packing_start : Packing all all 0 1
    unfolding packed
    packing_start =
        record { place = 0; room = omega arith; weight = λ h. refl; spent = λ h. absurd (omega arith); below = omega arith; whole = rw (pow-zero, one-mul) (zero-add _) }

    module _ (rest : Assignment) (bits bit : ℕ) (so_far : Packing all rest bits bit) where
      -- none is left
      pub packing_end : rest ≡ [] → bits ≡ packed t all
      unfolding binary
      packing_end none = rw (none, take-nil, mul-zero, add-zero) at so_far.whole

      -- one more is packed
      module _ (x : ℕ) (later : Assignment) (next : rest ≡ fact_of x ∷ later) where
        module _ (left : so_far.place < word_bits) where
          abbrev n : ℕ
          n = word_bits - (so_far.place + 1)

          parts : bits + 2 ^ so_far.place * (2 * to_come n later + digit (has_fact t x)) ≡ packed t all
          parts =
              let more : word_bits - so_far.place ≡ n + 1 = omega arith in
              rw (next, more, first_next n x later) at so_far.whole

          double : 2 ^ (so_far.place + 1) ≡ 2 ^ so_far.place * 2
          double = rw add-one (pow-suc 2 so_far.place)

          raised : bit_or bits bit ≡ 2 ^ so_far.place + bits
          raised = rw (so_far.weight left) (rw one-mul at (or_shifted_r 1 so_far.place bits so_far.below))

          regroup : (p d : ℕ) → bits + p * (2 * to_come n later + d) ≡ bits + d * p + p * 2 * to_come n later
          regroup p d = rw (mul-add, mul_comm d p, mul_assoc) (omega arith)

          shifts : (b : Bool) → ltb (so_far.place + 1) word_bits ≡ b → (so_far.place + 1 < word_bits → bit * 2 ^ 1 % 2 ^ 64 ≡ 2 ^ (so_far.place + 1))
              × (word_bits ≤ so_far.place + 1 → bit * 2 ^ 1 % 2 ^ 64 ≡ 0)
          shifts true e = (
            λ h. rw (so_far.weight left, ← double) (rw one-mul at (shl_exact {a = 1} 1 (so_far.place + 1) 64 (omega arith) (omega arith))),
            λ h. absurd (omega (arith, ltb-true (so_far.place + 1) word_bits e)),
          )
          shifts false e =
              let last : so_far.place ≡ 63 = omega (arith, ltb-false (so_far.place + 1) word_bits e) in
              (λ h. absurd (omega arith), λ h. rw (so_far.weight left, last) refl)

          more_left : (had : Bool) → had ≡ has_fact t x → Packing all later (cond had (bit_or bits bit) bits) (bit * 2 ^ 1 % 2 ^ 64)
          more_left true has =
              record {
                place = so_far.place + 1;
                room = omega arith;
                weight = (shifts (ltb (so_far.place + 1) word_bits) refl).0;
                spent = (shifts (ltb (so_far.place + 1) word_bits) refl).1;
                below = omega (arith, raised, double, so_far.below);
                whole = rw (raised, double) (omega (arith, regroup (2 ^ so_far.place) 1, rw (← has) at parts));
              }
          more_left false has =
              record {
                place = so_far.place + 1;
                room = omega arith;
                weight = (shifts (ltb (so_far.place + 1) word_bits) refl).0;
                spent = (shifts (ltb (so_far.place + 1) word_bits) refl).1;
                below = omega (arith, double, so_far.below);
                whole =
                    let none : bits + 2 ^ so_far.place * (2 * to_come n later + 0) ≡ packed t all = rw (← has) at parts in
                    rw (double, mul_assoc (2 ^ so_far.place) 2 (to_come n later)) (rw add-zero at none);
              }

        none_left : word_bits ≤ so_far.place → (had : Bool) → Packing all later (cond had (bit_or bits bit) bits) (bit * 2 ^ 1 % 2 ^ 64)
        none_left full had =
            record {
              place = so_far.place;
              room = so_far.room;
              weight = λ h. absurd (omega arith);
              spent = λ h. rw (so_far.spent full) refl;
              below = rw (same had) so_far.below;
              whole = rw (same had) (let none : word_bits - so_far.place ≡ 0 = omega arith in rw none (rw none at so_far.whole));
            }
          where
            same : (b : Bool) → cond b (bit_or bits bit) bits ≡ bits
            same true = rw (so_far.spent full) (or_zero_r bits)
            same false = refl

        pub packing_more : (had : Bool) → had ≡ has_fact t x → Packing all later (cond had (bit_or bits bit) bits) (bit * 2 ^ 1 % 2 ^ 64)
        packing_more had has = by_case (ltb so_far.place word_bits) refl
          where
            by_case : (b : Bool) → ltb so_far.place word_bits ≡ b → Packing all later (cond had (bit_or bits bit) bits) (bit * 2 ^ 1 % 2 ^ 64)
            by_case true e = more_left (ltb-true so_far.place word_bits e) had has
            by_case false e = none_left (ltb-false so_far.place word_bits e) had
