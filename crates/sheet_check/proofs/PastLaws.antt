-- Whether an effect of edition 2 runs past the end of its part, by the words that are left; and so the length of an action's part is wrong, by the tests in turn. Assumes nothing.
use Prim.Native.Nat.{ℕ, ◌+◌, ◌-◌, ◌≤◌, ◌<◌}
use native.Mathlib.Omega.{arith}
use mathlib.Core.Path.{◌≡◌, refl, sym, ◌∙◌}
use mathlib.Core.Bool.{Bool, true, false}
use mathlib.Core.List.{List}
use lib.Dec.{ltb, leb}
use borrow.Author.Tests.{lt-ltb, le-ltb, le-leb, leb-true, leb-false}
use Rattle.sas.specs.Conflict.{some_of}
use Rattle.sheet.specs.Layout.{word, offset, size, has_conditions}
use Rattle.sheet.specs.Decode.{effect_words}
use Rattle.sheet.specs.Causes.{runs_past, past_part, wrong_size}

-- some effect that stands from word i on runs past the end
abbrev pub some_past : List ℕ → ℕ → ℕ → Bool
some_past w end i = some_of (runs_past w end) (effect_words w end i (end - i))

module _ (w : List ℕ) (end i : ℕ) where
  -- the one at word i does where as many words are left as its condition has facts and one, or fewer
  pub past_told : (left n : ℕ) → left ≡ end - i → n ≡ word w i → leb left (n + 1) ≡ runs_past w end i
  unfolding runs_past
  past_told left n behind read = rw (behind, ← read) (by_case (leb (end - i) (n + 1)) refl)
    where
      by_case : (b : Bool) → leb (end - i) (n + 1) ≡ b → leb (end - i) (n + 1) ≡ ltb (end - (i + 1)) (n + 1)
      by_case true e = e ∙ sym (lt-ltb (end - (i + 1)) (n + 1) (omega (arith, leb-true _ _ e)))
      by_case false e = e ∙ sym (le-ltb (end - (i + 1)) (n + 1) (omega (arith, leb-false _ _ e)))

  -- in edition 2 that is what is asked of a part, and in edition 1 nothing is
  pub past_second : has_conditions w ≡ true → some_past w end i ≡ past_part w end i
  unfolding past_part
  past_second second = rw second

  pub past_first : has_conditions w ≡ false → false ≡ past_part w end i
  unfolding past_part
  past_first first = rw first

-- the length of an action's part is wrong: there is no room for its cost and its number of precondition facts, or for those, or an effect runs past it
module _ (w : List ℕ) (k words : ℕ) (action : 3 ≤ k) (sized : words ≡ size w k) where
  pub no_header : words < 2 → true ≡ wrong_size w k
  unfolding wrong_size
  no_header short = rw (le-ltb k 2 (omega arith), le-leb 3 k action, ← sized, lt-ltb words 2 short)

  module _ (from needed : ℕ) (begins : from ≡ offset w k) (counted : needed ≡ word w (from + 1)) (room : 2 ≤ words) where
    pub no_needs : words - 2 < needed → true ≡ wrong_size w k
    unfolding wrong_size
    no_needs short =
        rw (le-ltb k 2 (omega arith), le-leb 3 k action, ← sized, le-ltb words 2 room, ← begins, ← counted, lt-ltb (words - 2) needed short)

    pub no_effects : (p : Bool) → needed ≤ words - 2 → p ≡ past_part w (from + words) (from + 2 + needed) → p ≡ wrong_size w k
    unfolding wrong_size
    no_effects p enough found =
        found ∙ rw (le-ltb k 2 (omega arith), le-leb 3 k action, ← sized, le-ltb words 2 room, ← begins, ← counted, le-ltb (words - 2) needed enough)
