-- Writing out by words: a turn of the loop along the words leaves the same to be written in all, so that what the loop has written at its end is what was to
-- be written at its start. Assumes nothing.
use Prim.Native.Nat.{ℕ, ◌+◌, ◌*◌, ◌≤◌, ◌<◌}
use native.Mathlib.Numerals.{add-one}
use native.Mathlib.Omega.{arith}
use mathlib.Core.Path.{◌≡◌, refl, sym}
use mathlib.Core.List.{List, [], ◌++◌, map-append}
use lib.ListN.{length, get_or, drop, length-append, length-map, drop_of_length-le}
use lib.Seq.{sets, drop-cons}
use Rattle.access.specs.Between.Places.{ones_at, at_places}
use Rattle.access.proofs.StoreLaws.{stores_joined}
use Rattle.mask.specs.Mask.{word_bits}
use Rattle.mask.specs.Between.Places.{places, kept_by_words}

-- the places of the ones in a mask's words from word k on
unfoldable pub places_left : List ℕ → ℕ → List ℕ
places_left ws k = places (k * word_bits) (drop k ws)

-- what is kept by all words, and how much
module _ (ws plan : List ℕ) where
  pub left_whole : at_places plan (places_left ws 0) ≡ kept_by_words ws plan
  unfolding places_left kept_by_words
  left_whole = refl

  pub left_length : length (places_left ws 0) ≡ length (kept_by_words ws plan)
  unfolding places_left kept_by_words
  left_length = sym (length-map (places_left ws 0) _)

pub left_none : (ws : List ℕ) (k : ℕ) → length ws ≤ k → places_left ws k ≡ []
unfolding places_left places
left_none ws k past = rw (drop_of_length-le ws past)

left_next : (ws : List ℕ) (k : ℕ) → k < length ws → places_left ws k ≡ ones_at (k * word_bits) word_bits (get_or ws k 0) ++ places_left ws (k + 1)
unfolding places_left places
left_next ws k more =
    let next : k * word_bits + word_bits ≡ (k + 1) * word_bits = omega arith in
    rw (drop-cons ws k 0 more, next, add-one)

-- a turn of the loop that writes the words out
module _ (ws : List ℕ) (k : ℕ) (more : k < length ws) (to : ℕ) where
  pub word_passed : to + length (ones_at (k * word_bits) word_bits (get_or ws k 0)) + length (places_left ws (k + 1)) ≡ to + length (places_left ws k)
  word_passed = rw (left_next ws k more, length-append) (omega arith)

  pub word_stored : (plan out : List ℕ) → sets (sets out to (at_places plan (ones_at (k * word_bits) word_bits (get_or ws k 0))))
      (to + length (ones_at (k * word_bits) word_bits (get_or ws k 0))) (at_places plan (places_left ws (k + 1)))
      ≡ sets out to (at_places plan (places_left ws k))
  word_stored plan out =
      let here : List ℕ = ones_at (k * word_bits) word_bits (get_or ws k 0) in
      let joined = stores_joined out (at_places plan here) (at_places plan (places_left ws (k + 1))) to in
      rw (left_next ws k more, map-append, ← joined, length-map)
