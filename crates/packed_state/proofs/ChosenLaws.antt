-- The choices before an index, by whether the step there is flagged: how many unflagged steps lie before an index, that this number rises with it, and that
-- the word of choices is odd and below the bit of the next unflagged step. By induction on the index. Assumes nothing.
use Prim.Native.Nat.{ℕ, zero, suc, ◌+◌, ◌-◌, ◌*◌, ◌/◌, ◌%◌, ◌^◌, ◌≤◌, ◌<◌}
use native.Mathlib.Nat.{add-zero, add-mul, mul_assoc, mul_comm, pow-suc}
use native.Mathlib.Numerals.{add-one}
use native.Mathlib.Decide.{le_ind}
use native.Mathlib.Omega.{arith}
use mathlib.Core.Path.{◌≡◌, refl, sym, ◌∙◌}
use mathlib.Core.Bool.{Bool, true, false, not}
use mathlib.Core.List.{[], ◌∷◌}
use lib.ListN.{length, get_or}
use lib.Dec.{eqb}
use lib.Pow.{pow-add, high}
use borrow.Author.Tests.{eqb-true, eqb-false}
use Rattle.reduction.specs.Reduction.{Reduction, count}
use Rattle.mask.specs.Mask.{digit}
use Rattle.packed_state.specs.Between.Chosen.{open_before, weight, chosen}

module _ (flags : Reduction) (i : ℕ) where
  -- past a flagged step there are no more unflagged ones
  pub open_flagged : get_or flags i false ≡ true → open_before flags (suc i) ≡ open_before flags i
  unfolding open_before
  open_flagged up = rw (up, add-zero)

  -- past an unflagged one there is one more
  pub open_unflagged : get_or flags i false ≡ false → open_before flags (suc i) ≡ suc (open_before flags i)
  unfolding open_before
  open_unflagged down = rw (down, add-one)

  -- past a flagged step the choices are the same
  pub chosen_flagged : (m : Reduction) → get_or flags i false ≡ true → chosen flags m (suc i) ≡ chosen flags m i
  unfolding chosen
  chosen_flagged m up = rw up

  -- past an unflagged one they have its bit where it is kept
  pub chosen_unflagged : (m : Reduction) → get_or flags i false ≡ false → chosen flags m (suc i) ≡ chosen flags m i + digit (get_or m i false) * weight flags i
  unfolding chosen
  chosen_unflagged m down = rw down

  -- the number of unflagged steps does not fall at a step
  open_on : open_before flags i ≤ open_before flags (suc i)
  unfolding open_before
  open_on = omega arith

-- a later index has no fewer unflagged steps before it
pub open_rises : (flags : Reduction) (i j : ℕ) → i ≤ j → open_before flags i ≤ open_before flags j
open_rises flags i j h =
    le_ind (λ k. open_before flags i ≤ open_before flags k) (omega arith) (λ k later so_far. omega (arith, open_on flags k)) j h

-- the choices before an index are below the bit of the unflagged step there
pub chosen_below : (flags m : Reduction) (i : ℕ) → chosen flags m i < weight flags i
unfolding chosen open_before
chosen_below flags m zero = omega arith
chosen_below flags m (suc i) = by_case (chosen_below flags m i) (get_or flags i false) refl (get_or m i false) refl
  where
    by_case : chosen flags m i < weight flags i → (b : Bool) → get_or flags i false ≡ b → (d : Bool) → get_or m i false ≡ d
        → chosen flags m (suc i) < weight flags (suc i)
    by_case below true up d e = rw (chosen_flagged flags i m up, open_flagged flags i up) below
    by_case below false down true e =
        rw (chosen_unflagged flags i m down, open_unflagged flags i down, e) (omega (arith, pow-suc 2 (suc (open_before flags i))))
    by_case below false down false e =
        rw (chosen_unflagged flags i m down, open_unflagged flags i down, e) (omega (arith, pow-suc 2 (suc (open_before flags i))))

-- the choices are odd
pub chosen_odd : (flags m : Reduction) (i : ℕ) → chosen flags m i % 2 ≡ 1
unfolding chosen
chosen_odd flags m zero = refl
chosen_odd flags m (suc i) = by_case (chosen_odd flags m i) (get_or flags i false) refl (get_or m i false) refl
  where
    by_case : chosen flags m i % 2 ≡ 1 → (b : Bool) → get_or flags i false ≡ b → (d : Bool) → get_or m i false ≡ d → chosen flags m (suc i) % 2 ≡ 1
    by_case odd true up d e = rw (chosen_flagged flags i m up) odd
    by_case odd false down true e = rw (chosen_unflagged flags i m down, e) (omega (arith, pow-suc 2 (open_before flags i)))
    by_case odd false down false e = rw (chosen_unflagged flags i m down, e) (omega arith)

-- two reductions with the same decisions before an index have the same choices there
pub chosen_alike : (flags m n : Reduction) (i : ℕ) → ((k : ℕ) → k < i → get_or m k false ≡ get_or n k false) → chosen flags m i ≡ chosen flags n i
unfolding chosen
chosen_alike flags m n zero same = refl
chosen_alike flags m n (suc i) same = rw (chosen_alike flags m n i (λ k h. same k (omega arith)), same i (omega arith))

-- where no unflagged step is kept from an index on, the choices stay
pub chosen_stays : (flags m : Reduction) (i j : ℕ) → i ≤ j → ((k : ℕ) → i ≤ k → k < j → get_or m k false ≡ get_or flags k false) → chosen flags m j ≡ chosen flags m i
chosen_stays flags m i j h same = le_ind (λ n. n ≤ j → chosen flags m n ≡ chosen flags m i) (λ within. refl) (λ n later so_far. one_on n later so_far) j h (omega arith)
  where
    one_on : (n : ℕ) → i ≤ n → (n ≤ j → chosen flags m n ≡ chosen flags m i) → suc n ≤ j → chosen flags m (suc n) ≡ chosen flags m i
    one_on n later so_far within = by_case (get_or flags n false) refl
      where
        by_case : (b : Bool) → get_or flags n false ≡ b → chosen flags m (suc n) ≡ chosen flags m i
        by_case true up = chosen_flagged flags n m up ∙ so_far (omega arith)
        by_case false down = chosen_unflagged flags n m down ∙ rw (same n later within ∙ down) (omega (arith, so_far (omega arith)))

-- past flagged steps alone there are no more unflagged ones
pub open_stays : (flags : Reduction) (i j : ℕ) → i ≤ j → ((k : ℕ) → i ≤ k → k < j → get_or flags k false ≡ true) → open_before flags j ≡ open_before flags i
open_stays flags i j h all =
    le_ind (λ n. n ≤ j → open_before flags n ≡ open_before flags i) (λ within. refl)
    (λ n later so_far within. open_flagged flags n (all n later within) ∙ so_far (omega arith)) j h (omega arith)

-- the first unflagged step from an index on, or the end
pub record NextOpen (flags : Reduction) (i end j : ℕ) : Type 0 where
  pub later : i ≤ j
  pub within : j ≤ end
  pub passed : (k : ℕ) → i ≤ k → k < j → get_or flags k false ≡ true
  pub unflagged : j < end → get_or flags j false ≡ false

pub next_open : (flags : Reduction) (n i : ℕ) → (j : ℕ) × NextOpen flags i (i + n) j
next_open flags zero i =
    (i, record { later = omega arith; within = omega arith; passed = λ k above below. absurd (omega arith); unflagged = λ below. absurd (omega arith) })
next_open flags (suc n) i = by_case (next_open flags n (suc i)) (get_or flags i false) refl
  where
    by_case : (j : ℕ) × NextOpen flags (suc i) (suc i + n) j → (b : Bool) → get_or flags i false ≡ b → (j : ℕ) × NextOpen flags i (i + suc n) j
    by_case rest false down =
        (i, record { later = omega arith; within = omega arith; passed = λ k above below. absurd (omega arith); unflagged = λ below. down })
    by_case (j, rest) true up = (
      j,
      record {
        later = omega (arith, rest.later);
        within = omega (arith, rest.within);
        passed = λ k above below. first_passed k above below (eqb k i) refl;
        unflagged = λ below. rest.unflagged (omega arith);
      },
    )
      where
        first_passed : (k : ℕ) → i ≤ k → k < j → (b : Bool) → eqb k i ≡ b → get_or flags k false ≡ true
        first_passed k above below true e = rw (eqb-true k i e) up
        first_passed k above below false e = rest.passed k (omega (arith, eqb-false k i e)) below

-- past an unflagged step the choices have more bits only above its own
chosen_high : (flags m : Reduction) (i n : ℕ) → suc i ≤ n → get_or flags i false ≡ false
    → (a : ℕ) × (chosen flags m n ≡ a * 2 ^ suc (suc (open_before flags i)) + chosen flags m (suc i))
chosen_high flags m i n h down =
    le_ind (λ k. (a : ℕ) × (chosen flags m k ≡ a * 2 ^ suc (suc (open_before flags i)) + chosen flags m (suc i))) (0, omega arith) (λ k later so_far. one_on k later so_far) n h
  where
    one_on : (k : ℕ) → suc i ≤ k → (a : ℕ) × (chosen flags m k ≡ a * 2 ^ suc (suc (open_before flags i)) + chosen flags m (suc i))
        → (a : ℕ) × (chosen flags m (suc k) ≡ a * 2 ^ suc (suc (open_before flags i)) + chosen flags m (suc i))
    one_on k later (a, so_far) = by_case (get_or flags k false) refl
      where
        b : ℕ
        b = 2 ^ suc (suc (open_before flags i))

        e : ℕ
        e = open_before flags k - suc (open_before flags i)

        wide : weight flags k ≡ 2 ^ e * b
        wide =
            let parts : suc (open_before flags k) ≡ e + suc (suc (open_before flags i)) = omega (arith, open_rises flags (suc i) k later, open_unflagged flags i down) in
            rw parts (pow-add 2 e (suc (suc (open_before flags i))))

        by_case : (f : Bool) → get_or flags k false ≡ f → (a' : ℕ) × (chosen flags m (suc k) ≡ a' * b + chosen flags m (suc i))
        by_case true up = (a, chosen_flagged flags k m up ∙ so_far)
        by_case false free = (
          a + digit (get_or m k false) * 2 ^ e,
          chosen_unflagged flags k m free
              ∙ rw (so_far, wide, add-mul a (digit (get_or m k false) * 2 ^ e) b, mul_assoc (digit (get_or m k false)) (2 ^ e) b) (omega arith),
        )

-- the bit of an unflagged step tells whether it is kept
pub chosen_bit : (flags m : Reduction) (i n : ℕ) → i < n → get_or flags i false ≡ false → chosen flags m n / weight flags i % 2 ≡ digit (get_or m i false)
chosen_bit flags m i n h down = by_parts (chosen_high flags m i n h down)
  where
    w : ℕ
    w = weight flags i

    last_digit : (a : ℕ) (b : Bool) → (a * 2 + digit b) % 2 ≡ digit b
    last_digit a true = omega arith
    last_digit a false = omega arith

    by_parts : (a : ℕ) × (chosen flags m n ≡ a * 2 ^ suc (suc (open_before flags i)) + chosen flags m (suc i)) → chosen flags m n / w % 2 ≡ digit (get_or m i false)
    by_parts (a, parts) =
        let two : a * 2 ^ suc (suc (open_before flags i)) ≡ a * 2 * w = rw (pow-suc 2 (suc (open_before flags i)), mul_comm w 2) (sym (mul_assoc a 2 w)) in
        let whole : chosen flags m n ≡ (a * 2 + digit (get_or m i false)) * w + chosen flags m i =
        parts ∙ rw (two, chosen_unflagged flags i m down, add-mul (a * 2) (digit (get_or m i false)) w) (omega arith) in
        rw (whole, high (a * 2 + digit (get_or m i false)) (suc (open_before flags i)) (chosen_below flags m i)) (last_digit a (get_or m i false))

-- where all steps are kept all bits are one
pub chosen_all : (flags m : Reduction) (i : ℕ) → ((k : ℕ) → k < i → get_or m k false ≡ true) → chosen flags m i ≡ weight flags i - 1
unfolding chosen open_before
chosen_all flags m zero all = refl
chosen_all flags m (suc i) all = by_case (chosen_all flags m i (λ k h. all k (omega arith))) (get_or flags i false) refl
  where
    by_case : chosen flags m i ≡ weight flags i - 1 → (b : Bool) → get_or flags i false ≡ b → chosen flags m (suc i) ≡ weight flags (suc i) - 1
    by_case before true up = rw (chosen_flagged flags i m up, open_flagged flags i up) before
    by_case before false down =
        rw (chosen_unflagged flags i m down, open_unflagged flags i down, all i (omega arith))
        (omega (arith, before, pow-suc 2 (suc (open_before flags i)), chosen_below flags m i))

-- of all steps those are unflagged that are not counted as flagged
open_later : (b : Bool) (flags : Reduction) (i : ℕ) → open_before (b ∷ flags) (suc i) ≡ digit (not b) + open_before flags i
unfolding open_before
open_later b flags zero = omega arith
open_later b flags (suc i) = omega (arith, open_later b flags i)

pub open_counted : (flags : Reduction) → open_before flags (length flags) + count flags ≡ length flags
unfolding open_before count
open_counted [] = refl
open_counted (true ∷ flags) = omega (arith, open_later true flags (length flags), open_counted flags)
open_counted (false ∷ flags) = omega (arith, open_later false flags (length flags), open_counted flags)
