-- A text as bytes, in ASCII: where it is cut, and what its digits stand for. Assumes nothing.
use Rattle.std.specs.Prelude.{ℕ, ◌+◌, ◌-◌, ◌*◌, Bool, true, false, ◌&&◌, List, [], ◌∷◌, leb, eqb}
use Prim.Native.Char.{code}
use Prim.Native.String.{String, [] as no_text, ◌∷◌ as ◌then◌}

-- the bytes of a text
abbrev pub ascii : String → List ℕ
ascii no_text = []
ascii (c then s) = code c ∷ ascii s

abbrev pub space : ℕ
space = 32

abbrev pub line_end : ℕ
line_end = 10

abbrev pub ends_line : ℕ → Bool
ends_line b = eqb b line_end

-- the first digit and the last
abbrev pub ascii_zero : ℕ
ascii_zero = 48

abbrev pub ascii_nine : ℕ
ascii_nine = 57

abbrev pub ascii_digit : ℕ → Bool
ascii_digit b = leb ascii_zero b && leb b ascii_nine

-- bytes cut at each byte for which a test holds, which is left out: the bytes to the first such byte, and the other
-- runs of bytes
pub record Split : Type 0 where
  pub first : List ℕ
  pub others : List (List ℕ)

abbrev pub runs : Split → List (List ℕ)
runs c = c.first ∷ c.others

unfoldable pub split : (ℕ → Bool) → List ℕ → Split
split test [] = record { first = []; others = [] }
split test (b ∷ bs) =
    elim (test b) [
      | true ↦ record { first = []; others = runs (split test bs) }
      | false ↦ record { first = b ∷ (split test bs).first; others = (split test bs).others }
    ]

-- whether all bytes are digits
unfoldable pub all_digits : List ℕ → Bool
all_digits [] = true
all_digits (b ∷ bs) = ascii_digit b && all_digits bs

-- the number that digits stand for in decimal, where those in front of them stand for v
unfoldable pub decimal_from : ℕ → List ℕ → ℕ
decimal_from v [] = v
decimal_from v (b ∷ bs) = decimal_from (10 * v + (b - ascii_zero)) bs
