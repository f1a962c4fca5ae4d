-- A run of stores of a list into lent words, by the cases of a loop over it: none is left, or one more is; and a run behind another. Assumes nothing.
use Prim.Native.Nat.{ℕ, zero, suc, ◌+◌, ◌-◌, min, ◌≤◌, ◌<◌}
use native.Mathlib.Nat.{add-zero, add-suc, suc-add, suc-min-suc, min-zero, zero-min}
use native.Mathlib.Numerals.{add-one}
use native.Mathlib.Omega.{arith}
use mathlib.Core.Path.{◌≡◌, refl, sym, ◌∙◌, ap}
use mathlib.Core.Bool.{Bool, true, false}
use mathlib.Core.List.{List, [], ◌∷◌, ◌++◌, append-nil}
use lib.ListN.{length, get_or, set, take, drop, drop_of_length-le}
use lib.Seq.{sets, set_out, drop-cons, take_all}
use lib.Dec.{leb}
use borrow.Author.Tests.{leb-true, leb-false}
use Rattle.std.proofs.Common.{length-drop}
use borrow.Rule.Slice.PartMut.{put_mid, post_of}

-- from the end of a list on nothing is stored
pub rest_over : {A : Type 0} (l vs : List A) (i : ℕ) → length vs ≤ i → sets l i (drop i vs) ≡ l
rest_over l vs i h = rw (drop_of_length-le vs h)

-- nothing is stored past the end of the words
pub stored_past : {A : Type 0} (l us : List A) (i : ℕ) → length l ≤ i → sets l i us ≡ l
stored_past l [] i h = refl
stored_past l (u ∷ us) i h = rw (set_out l i u h) (stored_past l us (suc i) (omega arith))

-- nor from where a list or the room for it ends
pub rest_or_room_over : {A : Type 0} (l vs : List A) (i : ℕ) → min (length l) (length vs) ≤ i → sets l i (drop i vs) ≡ l
rest_or_room_over l vs i over = by_case (leb (length vs) i) refl
  where
    by_case : (b : Bool) → leb (length vs) i ≡ b → sets l i (drop i vs) ≡ l
    by_case true e = rest_over l vs i (leb-true (length vs) i e)
    by_case false e = stored_past l (drop i vs) i (omega (arith, over, leb-false (length vs) i e))

-- stores behind the first word leave that word
stores_behind : {A : Type 0} (x : A) (l vs : List A) (i : ℕ) → sets (x ∷ l) (suc i) vs ≡ x ∷ sets l i vs
stores_behind x l [] i = refl
stores_behind x l (v ∷ vs) i = stores_behind x (set l i v) vs (suc i)

-- values stored from the first word on are as many of them as there is room for, and then the words behind
pub stored_front : {A : Type 0} (l vs : List A) → sets l 0 vs ≡ take (min (length l) (length vs)) vs ++ drop (min (length l) (length vs)) l
stored_front [] vs = stored_past [] vs 0 (omega arith) ∙ rw (zero-min (length vs))
stored_front (x ∷ l) [] = rw (min-zero (length (x ∷ l)))
stored_front (x ∷ l) (v ∷ vs) = rw (suc-min-suc (length l) (length vs)) (stores_behind v l vs 0 ∙ ap (λ ws. v ∷ ws) (stored_front l vs))

-- values stored from an index on are stored at the front of what stands there
pub stored_from : {A : Type 0} (l vs : List A) (at : ℕ) → sets l at vs ≡ take at l ++ sets (drop at l) 0 vs
stored_from l vs zero = refl
stored_from [] vs (suc at) = stored_past [] vs (suc at) (omega arith) ∙ rw (stored_past [] vs 0 (omega arith))
stored_from (x ∷ l) vs (suc at) = stores_behind x l vs at ∙ ap (λ ws. x ∷ ws) (stored_from l vs at)

pub stored_behind : {A : Type 0} (l vs rest : List A) (at : ℕ) → at ≤ length l → rest ≡ sets (take (length l - at) (drop at l)) 0 vs
    → put_mid at (length l - at) l rest ≡ sets l at vs
stored_behind l vs rest at low stored =
    let all : take (length l - at) (drop at l) ≡ drop at l = take_all (length l - at) (drop at l) (omega (arith, length-drop at l)) in
    let none : post_of at (length l - at) l ≡ [] = drop_of_length-le (drop at l) (omega (arith, length-drop at l)) in
    rw (stored, all, none, append-nil) (sym (stored_from l vs at))

-- before its end, the value here is stored first
pub rest_next : (l vs : List ℕ) (i : ℕ) → i < length vs → sets l i (drop i vs) ≡ sets (set l i (get_or vs i 0)) (i + 1) (drop (i + 1) vs)
rest_next l vs i h = rw (add-one i, drop-cons vs i 0)

-- the words stored one after the other are those stored in one go
pub stores_joined : (out vs us : List ℕ) (at : ℕ) → sets (sets out at vs) (at + length vs) us ≡ sets out at (vs ++ us)
stores_joined out [] us at = rw add-zero
stores_joined out (v ∷ vs) us at = rw (add-suc, ← suc-add) (stores_joined (set out at v) vs us (suc at))
