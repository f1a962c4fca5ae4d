-- The flags of the steps that choices keep. Assumes nothing.
use Rattle.std.specs.Prelude.{ℕ, ◌+◌, ◌-◌, ◌/◌, ◌%◌, ◌^◌, ◌<◌, ◌≡◌, Bool, true, false, cond, ◌&&◌, length, get_or, ltb, eqb}
use Rattle.reduction.specs.Reduction.{Reduction}
use Rattle.mask.specs.Mask.{word_bits}
use Rattle.plan.specs.Limits.{most_steps}
use Rattle.packed_state.specs.Between.Chosen.{open_before}

-- the bits of a word of choices but the lowest
abbrev pub choice_bits : ℕ
choice_bits = word_bits - 1

-- the bit of unflagged step d, none past the last bit of a word
unfoldable pub bit_of : ℕ → ℕ
bit_of d = cond (ltb d choice_bits) (2 ^ (d + 1)) 0

-- choices keep unflagged step d
unfoldable pub chosen_up : ℕ → ℕ → Bool
chosen_up bits d = ltb d choice_bits && eqb (bits / 2 ^ (d + 1) % 2) 1

-- they keep a step: it is flagged, or else unflagged step d
unfoldable pub kept_by : Bool → ℕ → ℕ → Bool
kept_by flagged bits d = cond flagged true (chosen_up bits d)

-- a flag for each step that a plan may have, up where it is kept
pub record Unpacks (flags : Reduction) (bits : ℕ) (kept : Reduction) : Type 0 where
  pub sized : length kept ≡ most_steps
  pub told : (i : ℕ) → i < length flags → i < most_steps
      → get_or kept i false ≡ kept_by (get_or flags i false) bits (open_before flags i)
