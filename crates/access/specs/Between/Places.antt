-- The places of the ones in a word, and the words at places. Assumes nothing.
use Rattle.std.specs.Prelude.{ℕ, zero, suc, ◌+◌, ◌/◌, ◌%◌, true, false, List, [], ◌∷◌, map, get_or, eqb}

-- the places of the ones among the n lowest binary digits of a word, the lowest digit at place i
unfoldable pub ones_at : ℕ → ℕ → ℕ → List ℕ
ones_at i zero w = []
ones_at i (suc n) w = elim (eqb (w % 2) 1) [ true ↦ i ∷ ones_at (i + 1) n (w / 2) | false ↦ ones_at (i + 1) n (w / 2) ]

-- the words at these places, 0 past their end
abbrev pub at_places : List ℕ → List ℕ → List ℕ
at_places words is = map (λ i. get_or words i 0) is
