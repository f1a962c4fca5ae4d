-- A word by its four bytes, one after the other; and words that are whole stay as they are where more bytes follow. Assumes nothing.
use Prim.Native.Nat.{ℕ, suc, ◌+◌, ◌*◌, ◌≤◌, ◌<◌}
use native.Mathlib.Omega.{arith}
use native.Mathlib.Numerals.{add-one}
use mathlib.Core.Path.{◌≡◌, refl, ◌∙◌}
use mathlib.Core.Bool.{Bool, true, false}
use mathlib.Core.List.{List, ◌++◌}
use lib.ListN.{length, take, drop, get_or, drop_of_length-le, get_or-eq_default, length-drop}
use lib.Seq.{take-nil, drop-cons, take-append-le, drop-append-le}
use lib.Dec.{ltb}
use borrow.Author.Tests.{ltb-true, ltb-false}
use Rattle.sheet.proofs.TableLaws.{table_same}
use Rattle.records.specs.RecordForm.{word_bytes, byte_values, little_endian, word_at, unpacked}

-- the bytes from index i on: the first of them, which past the end is 0, and those from index j on
next_byte : (bytes : List ℕ) (i j n : ℕ) → j ≡ i + 1 → little_endian (take (suc n) (drop i bytes)) ≡ get_or bytes i 0 + byte_values * little_endian (take n (drop j bytes))
unfolding little_endian
next_byte bytes i j n e = by_case (ltb i (length bytes)) refl
  where
    by_case : (b : Bool) → ltb i (length bytes) ≡ b → little_endian (take (suc n) (drop i bytes)) ≡ get_or bytes i 0 + byte_values * little_endian (take n (drop j bytes))
    by_case true is = let here : i < length bytes = ltb-true _ _ is in rw (e, add-one, drop-cons bytes i 0 here)
    by_case false is =
        let past : length bytes ≤ i = ltb-false _ _ is in
        let past_next : length bytes ≤ j = omega arith in
        rw (drop_of_length-le bytes past, drop_of_length-le bytes past_next, get_or-eq_default bytes 0 past, take-nil)

-- word i by its bytes, the first at index k
pub word_of_bytes : (bytes : List ℕ) (i k : ℕ) → k ≡ word_bytes * i
    → word_at bytes i ≡ get_or bytes k 0 + byte_values * (get_or bytes (k + 1) 0 + byte_values * (get_or bytes (k + 2) 0 + byte_values * get_or bytes (k + 3) 0))
unfolding word_at little_endian
word_of_bytes bytes i k e =
    let last : little_endian (take 1 (drop (k + 3) bytes)) ≡ get_or bytes (k + 3) 0 = next_byte bytes (k + 3) (k + 4) 0 (omega arith) ∙ omega arith in
    let third : little_endian (take 2 (drop (k + 2) bytes)) ≡ get_or bytes (k + 2) 0 + byte_values * little_endian (take 1 (drop (k + 3) bytes)) = next_byte bytes (k + 2) (k + 3) 1 (omega arith) in
    rw (← e, next_byte bytes k (k + 1) 3 refl, next_byte bytes (k + 1) (k + 2) 2 (omega arith), third, last)

-- a word that is whole stays where more bytes follow
pub word_stays : (xs ys : List ℕ) (i : ℕ) → word_bytes * (i + 1) ≤ length xs → word_at (xs ++ ys) i ≡ word_at xs i
unfolding word_at
word_stays xs ys i h =
    let begins : word_bytes * i ≤ length xs = omega arith in
    let whole : word_bytes ≤ length (drop (word_bytes * i) xs) = rw length-drop (omega arith) in
    rw (drop-append-le (word_bytes * i) xs ys begins, take-append-le word_bytes (drop (word_bytes * i) xs) ys whole)

-- and so do the first n words
pub words_stay : (xs ys : List ℕ) (n : ℕ) → word_bytes * n ≤ length xs → unpacked (xs ++ ys) n ≡ unpacked xs n
words_stay xs ys n h = table_same (word_at (xs ++ ys)) (word_at xs) 0 n (λ i low high. word_stays xs ys i (omega arith))
