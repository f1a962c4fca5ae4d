-- Where bytes are cut, by the next byte and by the first run. Assumes nothing.
use Prim.Native.Nat.{ℕ, suc, ◌≤◌, ◌<◌}
use native.Mathlib.Omega.{arith}
use mathlib.Core.Path.{◌≡◌, refl, ◌∙◌, ap}
use mathlib.Core.Bool.{Bool, true, false}
use mathlib.Core.List.{List, [], ◌∷◌}
use lib.ListN.{length, take, drop}
use Rattle.ascii.specs.Bytes.{Split, runs, split}

pub split_at : (test : ℕ → Bool) (b : ℕ) (bs : List ℕ) → test b ≡ true → split test (b ∷ bs) ≡ record { first = []; others = runs (split test bs) }
unfolding split
split_at test b bs e = rw (e, split)

pub split_in : (test : ℕ → Bool) (b : ℕ) (bs : List ℕ) → test b ≡ false
    → split test (b ∷ bs) ≡ record { first = b ∷ (split test bs).first; others = (split test bs).others }
unfolding split
split_in test b bs e = rw (e, split)

-- a byte in front of the first run
abbrev put_in_front : ℕ → Split → Split
put_in_front b c = record { first = b ∷ c.first; others = c.others }

module _ (test : ℕ → Bool) where
  -- where the first run is as long as the bytes, it is all of them
  pub split_last : (bs : List ℕ) → length bs ≤ length (split test bs).first → split test bs ≡ record { first = bs; others = [] }
  unfolding split
  split_last [] h = refl
  split_last (b ∷ bs) h = by_case (split_last bs) (test b) refl
    where
      by_case : (length bs ≤ length (split test bs).first → split test bs ≡ record { first = bs; others = [] }) → (t : Bool) → test b ≡ t
          → split test (b ∷ bs) ≡ record { first = b ∷ bs; others = [] }
      by_case rest true e = absurd (omega (arith, rw (split_at test b bs e) at h))
      by_case rest false e = split_in test b bs e ∙ ap (put_in_front b) (rest (omega (arith, rw (split_in test b bs e) at h)))

  -- where it is shorter, a byte for which the test holds is behind it, and the other runs are behind that byte
  abbrev CutBehind : List ℕ → Type 0
  CutBehind bs =
      let n = length (split test bs).first in
      split test bs ≡ record { first = take n bs; others = runs (split test (drop (suc n) bs)) }

  pub split_more : (bs : List ℕ) → length (split test bs).first < length bs → CutBehind bs
  unfolding split
  split_more [] h = absurd (omega arith)
  split_more (b ∷ bs) h = by_case (split_more bs) (test b) refl
    where
      by_case : (length (split test bs).first < length bs → CutBehind bs) → (t : Bool) → test b ≡ t → CutBehind (b ∷ bs)
      by_case rest true e = rw (split_at test b bs e)
      by_case rest false e = rw (split_in test b bs e) (ap (put_in_front b) (rest (omega (arith, rw (split_in test b bs e) at h))))
