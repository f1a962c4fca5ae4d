-- The ones of a mask's words, in order, and a plan's words at them. Assumes nothing.
use Rattle.std.specs.Prelude.{ℕ, ◌+◌, List, [], ◌∷◌, ◌++◌}
use Rattle.access.specs.Between.Places.{ones_at, at_places}
use Rattle.mask.specs.Mask.{word_bits}

-- the places of the ones in words, the lowest digit of the first at place i
unfoldable pub places : ℕ → List ℕ → List ℕ
places i [] = []
places i (w ∷ ws) = ones_at i word_bits w ++ places (i + word_bits) ws

-- a plan's words at the ones of a mask's words, in order
unfoldable pub kept_by_words : List ℕ → List ℕ → List ℕ
kept_by_words ws plan = at_places plan (places 0 ws)
