-- The flags that choices are unpacked to, by the cases of the code, and that they are the reduction which the choices tell: its bit tells of each unflagged step
-- whether it is kept. What the code calls is a variable here, with what is known of it as a premise. Assumes nothing.
use Prim.Native.Nat.{ℕ, suc, ◌+◌, ◌*◌, ◌/◌, ◌%◌, ◌^◌, ◌≤◌, ◌<◌}
use native.Mathlib.Nat.{pow-suc, div-div-eq-div-mul, div-eq_of_lt}
use native.Mathlib.Numerals.{add-one}
use lib.Pow.{pow_mono}
use native.Mathlib.Omega.{arith}
use mathlib.Core.Path.{◌≡◌, refl, sym, ◌∙◌, ap}
use mathlib.Core.Bool.{Bool, true, false, ◌&&◌}
use lib.ListN.{length, get_or, set, take, replicate, length-set, length-replicate}
use lib.Seq.{ext_get_or, get_or-take, get_or-set_same, get_or-set_other, length-take-le}
use lib.Dec.{eqb, ltb}
use borrow.Author.Tests.{lt-ltb, eqb-true, eqb-false, ltb-false}
use Rattle.reduction.specs.Reduction.{Reduction}
use Rattle.reduction.specs.Between.Order.{Contains}
use Rattle.mask.specs.Mask.{digit}
use Rattle.plan.specs.Limits.{most_steps}
use Rattle.packed_state.specs.Between.Chosen.{most_choices, open_before, chosen}
use Rattle.packed_state.proofs.ChosenLaws.{open_flagged, open_unflagged, open_rises, chosen_bit}
use Rattle.turns.specs.Between.Unpacked.{choice_bits, chosen_up, kept_by, Unpacks}

-- the flags of the steps before index i are unpacked, and `left` are the bits of the unflagged ones from there on
pub record Unpacking (flags : Reduction) (bits : ℕ) (kept : Reduction) (left i : ℕ) : Type 0 where
  pub sized : length kept ≡ most_steps
  pub told : (k : ℕ) → k < i → get_or kept k false ≡ kept_by (get_or flags k false) bits (open_before flags k)
  pub rest : left ≡ bits / 2 ^ (open_before flags i + 1)

module _ (flags : Reduction) (bits : ℕ) (small : bits < 2 ^ 64) where
  pub unpacking_start : Unpacking flags bits (replicate most_steps false) (bits / 2) 0
  unfolding open_before
  unpacking_start = record { sized = length-replicate {A = Bool} most_steps false; told = λ k below. absurd (omega arith); rest = refl }

  -- the lowest bit that is left is that of the next unflagged step
  lowest_left : (left d : ℕ) → left ≡ bits / 2 ^ (d + 1) → eqb (left % 2) 1 ≡ chosen_up bits d
  unfolding chosen_up
  lowest_left left d rest = by_case (ltb d choice_bits) refl
    where
      by_case : (b : Bool) → ltb d choice_bits ≡ b → eqb (left % 2) 1 ≡ (ltb d choice_bits && eqb (bits / 2 ^ (d + 1) % 2) 1)
      by_case true e = rw (e, rest)
      by_case false e =
          let past : choice_bits ≤ d = ltb-false d choice_bits e in
          let wide : bits < 2 ^ (d + 1) = omega (arith, small, pow_mono {i = 64} {j = d + 1} (omega arith)) in
          rw (e, rest, div-eq_of_lt wide)

  -- one step more, which is `up`
  unpacked_more : (kept : Reduction) (left left' i : ℕ) (up : Bool) → Unpacking flags bits kept left i → i < most_steps
      → up ≡ kept_by (get_or flags i false) bits (open_before flags i) → left' ≡ bits / 2 ^ (open_before flags (i + 1) + 1) → Unpacking flags bits (set kept i up) left' (i + 1)
  unpacked_more kept left left' i up so_far inside is rest =
      record {
        sized = length-set kept i up ∙ so_far.sized;
        told = λ k below. by_case k below (eqb k i) refl;
        rest = rest;
      }
    where
      by_case : (k : ℕ) → k < i + 1 → (b : Bool) → eqb k i ≡ b → get_or (set kept i up) k false ≡ kept_by (get_or flags k false) bits (open_before flags k)
      by_case k below true e = rw (eqb-true k i e) (get_or-set_same kept i up false (omega (arith, so_far.sized)) ∙ is)
      by_case k below false e = get_or-set_other kept i k up false (eqb-false k i e) ∙ so_far.told k (omega (arith, eqb-false k i e))

  module _ (kept : Reduction) (left i : ℕ) (so_far : Unpacking flags bits kept left i) where
    -- a flagged step is kept
    pub unpacking_flagged : i < most_steps → get_or flags i false ≡ true → Unpacking flags bits (set kept i true) left (i + 1)
    unfolding kept_by
    unpacking_flagged inside up =
        unpacked_more kept left left i true so_far inside (rw up) (rw (add-one i, open_flagged flags i up) so_far.rest)

    -- another where its bit is one
    pub unpacking_open : i < most_steps → get_or flags i false ≡ false → Unpacking flags bits (set kept i (eqb (left % 2) 1)) (left / 2) (i + 1)
    unfolding kept_by
    unpacking_open inside down =
        let next : open_before flags (i + 1) + 1 ≡ suc (open_before flags i + 1) = rw (add-one i, open_unflagged flags i down) (omega arith) in
        let wide : 2 ^ (open_before flags i + 1) * 2 ≡ 2 ^ (open_before flags (i + 1) + 1) = rw next (sym (pow-suc 2 (open_before flags i + 1))) in
        unpacked_more kept left (left / 2) i (eqb (left % 2) 1) so_far inside (rw down (lowest_left left (open_before flags i) so_far.rest))
        (rw (so_far.rest, div-div-eq-div-mul) (ap (λ x. bits / x) wide))

    pub unpacked_all : most_steps ≤ i → Unpacks flags bits kept
    unpacked_all all = record { sized = so_far.sized; told = λ k below few. so_far.told k (omega arith) }

-- the flags are the reduction that the choices tell
pub unpacked_same : (flags m kept : Reduction) (bits n : ℕ) → Unpacks flags bits kept → n ≤ most_steps → length flags ≡ n → length m ≡ n → Contains m flags
    → open_before flags n ≤ most_choices → bits ≡ chosen flags m n → take n kept ≡ m
unfolding kept_by chosen_up
unpacked_same flags m kept bits n unpacks few_steps as_long fits contains few tells =
    ext_get_or false (take n kept) m (long ∙ sym fits) (λ i h. get_or-take n kept i false (omega (arith, long)) ∙ unpacks.told i (omega (arith, long)) (omega (arith, long)) ∙ by_case i (omega (arith, long)) (get_or flags i false) refl)
  where
    long : length (take n kept) ≡ n
    long = length-take-le n kept (omega (arith, unpacks.sized))

    digit_one : (b : Bool) → eqb (digit b) 1 ≡ b
    digit_one true = refl
    digit_one false = refl

    by_case : (i : ℕ) → i < n → (b : Bool) → get_or flags i false ≡ b → kept_by (get_or flags i false) bits (open_before flags i) ≡ get_or m i false
    by_case i inside true up = rw up (sym (contains i up))
    by_case i inside false down =
        let room : open_before flags i < choice_bits = omega (arith, open_unflagged flags i down, open_rises flags (suc i) n inside) in
        rw (down, lt-ltb (open_before flags i) choice_bits room, tells, add-one, chosen_bit flags m i n inside down) (digit_one (get_or m i false))
