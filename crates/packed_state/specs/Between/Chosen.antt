-- A reduction that keeps the flagged steps as a word of choices: unflagged step c has bit c + 1, and bit 0 is always
-- one. Assumes nothing.
use Rattle.std.specs.Prelude.{ℕ, zero, suc, ◌+◌, ◌*◌, ◌^◌, false, cond, not, get_or}
use Rattle.reduction.specs.Reduction.{Reduction}
use Rattle.mask.specs.Mask.{digit}

-- the most unflagged steps that the search has room for
abbrev pub most_choices : ℕ
most_choices = 31

-- how many of the steps before index i are unflagged
unfoldable pub open_before : Reduction → ℕ → ℕ
open_before flags zero = 0
open_before flags (suc i) = open_before flags i + digit (not (get_or flags i false))

-- the bit of the step at index i, if it is unflagged; all bits of steps before it are below
abbrev pub weight : Reduction → ℕ → ℕ
weight flags i = 2 ^ suc (open_before flags i)

-- the choices that m makes before index i
unfoldable pub chosen : Reduction → Reduction → ℕ → ℕ
chosen flags m zero = 1
chosen flags m (suc i) =
    cond (get_or flags i false) (chosen flags m i) (chosen flags m i + digit (get_or m i false) * weight flags i)
