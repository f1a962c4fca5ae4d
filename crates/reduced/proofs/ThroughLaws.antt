-- Flags that are kept by a first reduction and then by a second one of what it leaves, step by step: of the steps before an index they are both as one, and none is
-- up past it. Assumes nothing.
use Prim.Native.Nat.{ℕ, zero, suc, ◌+◌, ◌-◌, ◌≤◌, ◌<◌}
use native.Mathlib.Numerals.{add-one}
use native.Mathlib.Omega.{arith}
use mathlib.Core.Path.{◌≡◌, refl, sym, ◌∙◌, ap}
use mathlib.Core.Bool.{Bool, true, false, ◌&&◌}
use mathlib.Core.List.{List, [], ◌∷◌, ◌++◌, append_assoc}
use lib.ListN.{length, get_or, take, set, replicate, length-replicate, length-set}
use lib.Seq.{set_at, take_at, take-length, length-take-le}
use Rattle.plan.specs.Limits.{most_steps}
use Rattle.reduction.specs.Reduction.{Reduction, count, compose}
use Rattle.reduction.proofs.ReductionLaws.{compose_length}
use Rattle.mask.specs.Mask.{mask_bits, mask_words, bit_up}
use Rattle.mask.proofs.MaskTheorem.{up_is_flag}

-- the flag of the step at index i by both
abbrev flag_by_both : Reduction → Reduction → ℕ → Bool
flag_by_both f m i = get_or f i false && get_or m (count (take i f)) false

compose_next : (f m : Reduction) (i : ℕ) → i < length f → compose (take (suc i) f) m ≡ compose (take i f) m ++ (flag_by_both f m i ∷ [])
unfolding compose count
compose_next [] m i h = absurd (omega arith)
compose_next (false ∷ f) m zero h = refl
compose_next (true ∷ f) [] zero h = refl
compose_next (true ∷ f) (b ∷ m) zero h = refl
compose_next (false ∷ f) m (suc i) h = ap (λ r. false ∷ r) (compose_next f m i (omega arith))
compose_next (true ∷ f) [] (suc i) h = ap (λ r. false ∷ r) (compose_next f [] i (omega arith))
compose_next (true ∷ f) (b ∷ m) (suc i) h = ap (λ r. b ∷ r) (compose_next f m i (omega arith))

count_next : (f : Reduction) (i : ℕ) (b : Bool) → i < length f → get_or f i false ≡ b → count (take (suc i) f) ≡ count (take i f) + count (b ∷ [])
unfolding count
count_next [] i b h is = absurd (omega arith)
count_next (a ∷ f) zero b h is = omega (arith, ap (λ x. count (x ∷ [])) is)
count_next (true ∷ f) (suc i) b h is = omega (arith, count_next f i b (omega arith) is)
count_next (false ∷ f) (suc i) b h is = count_next f i b (omega arith) is

-- the flags of the steps before index i by both, and none past them
abbrev through : Reduction → Reduction → ℕ → Reduction
through f m i = compose (take i f) m ++ replicate (most_steps - i) false

module _ (f m : Reduction) (i : ℕ) (inside : i < length f) (few : length f ≤ most_steps) where
  before_long : length (compose (take i f) m) ≡ i
  before_long = compose_length (take i f) m ∙ length-take-le i f (omega arith)

  -- the next flag is down, and is put up where both keep its step
  next_down : through f m i ≡ compose (take i f) m ++ (false ∷ replicate (most_steps - suc i) false)
  next_down = let fewer : most_steps - i ≡ suc (most_steps - suc i) = omega arith in rw fewer

  next_put : compose (take i f) m ++ (flag_by_both f m i ∷ replicate (most_steps - suc i) false) ≡ through f m (suc i)
  next_put = rw (compose_next f m i inside) (sym (append_assoc (compose (take i f) m) (flag_by_both f m i ∷ []) (replicate (most_steps - suc i) false)))

  through_kept : get_or f i false ≡ true → set (through f m i) i (get_or m (count (take i f)) false) ≡ through f m (suc i)
  through_kept up =
      ap (λ r. set r i (get_or m (count (take i f)) false)) next_down
      ∙ set_at (compose (take i f) m) false (replicate (most_steps - suc i) false) (get_or m (count (take i f)) false) i before_long
      ∙ rw up at next_put

  through_struck : get_or f i false ≡ false → through f m i ≡ through f m (suc i)
  through_struck down = next_down ∙ rw down at next_put

-- the flags so far of the flags f and a second reduction that is told by the words of its mask
pub record Through (f : Reduction) (words : List ℕ) (both : Reduction) (left i : ℕ) : Type 0 where
  pub within : i ≤ length f
  pub sized : length both ≡ most_steps
  pub few : left ≤ i
  pub counted : left ≡ count (take i f)
  pub composed : (m : Reduction) → words ≡ mask_words m → length m ≤ mask_bits → both ≡ through f m i

pub through_start : (f : Reduction) (words : List ℕ) → Through f words (replicate most_steps false) 0 0
unfolding compose count
through_start f words = record { within = omega arith; sized = length-replicate most_steps false; few = omega arith; counted = refl; composed = λ m is few. refl }

module _ (f : Reduction) (words : List ℕ) (both : Reduction) (left i : ℕ) (so_far : Through f words both left i) (inside : i < length f) (few : length f ≤ most_steps) where
  pub through_more : (b : Bool) → get_or f i false ≡ true → b ≡ bit_up words left → Through f words (set both i b) (left + 1) (i + 1)
  unfolding count
  through_more b up read =
      record {
        within = omega arith;
        sized = length-set both i b ∙ so_far.sized;
        few = omega (arith, so_far.few);
        counted = rw (add-one i, add-one left) (ap suc so_far.counted ∙ sym (count_next f i true inside up ∙ add-one _));
        composed = λ m is short.
            let bit : b ≡ get_or m (count (take i f)) false = read ∙ rw (is, so_far.counted) (up_is_flag m short (count (take i f))) in
            rw (add-one i) (rw (so_far.composed m is short, bit) (through_kept f m i inside few up));
      }

  pub through_next : get_or f i false ≡ false → Through f words both left (i + 1)
  unfolding count
  through_next down =
      record {
        within = omega arith;
        sized = so_far.sized;
        few = omega (arith, so_far.few);
        counted = rw (add-one i) (so_far.counted ∙ sym (count_next f i false inside down ∙ omega arith));
        composed = λ m is short. rw (add-one i) (so_far.composed m is short ∙ through_struck f m i inside few down);
      }

-- at the end they are both as one
pub through_all : (f : Reduction) (words : List ℕ) (both : Reduction) (left i : ℕ) → Through f words both left i → length f ≤ i → (r : List ℕ) → r ≡ mask_words (take (length f) both)
    → (m : Reduction) → words ≡ mask_words m → length m ≤ mask_bits → r ≡ mask_words (compose f m)
through_all f words both left i so_far over r told m is short =
    let all : i ≡ length f = omega (arith, so_far.within) in
    let whole : take i f ≡ f = rw all (take-length f) in
    let flags : both ≡ compose f m ++ replicate (most_steps - i) false = rw whole at (so_far.composed m is short) in
    told ∙ rw flags (ap mask_words (take_at (compose f m) (replicate (most_steps - i) false) (length f) (compose_length f m)))
