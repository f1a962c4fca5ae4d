-- Reading the bytes of words gives the words back, each by its four bytes. Assumes nothing.
use Prim.Native.Nat.{ℕ, zero, suc, ◌+◌, ◌*◌, ◌/◌, ◌%◌, ◌^◌, ◌<◌}
use native.Mathlib.Omega.{arith}
use native.Mathlib.Nat.{pow-suc, mod-add-div, div-lt_iff_lt-mul}
use mathlib.Core.Path.{◌≡◌, refl, sym, ◌∙◌, ap}
use mathlib.Core.List.{List, [], ◌∷◌, ◌++◌, append_assoc}
use lib.ListN.{length, take, length-append}
use lib.Seq.{take_at, drop_at}
use lib.Dec.{lit<}
use Rattle.sheet.specs.Decode.{table}
use Rattle.records.specs.RecordForm.{word_bytes, byte_values, little_endian, word_at, unpacked}
use Rattle.records.specs.Bytes.{bytes_of, all_bytes, WordSized, nothing, word}

-- a number by its n lowest bytes
back : (n x : ℕ) → x < byte_values ^ n → little_endian (bytes_of n x) ≡ x
unfolding little_endian bytes_of
back zero x small = omega arith
back (suc n) x small =
    let high : x / byte_values < byte_values ^ n = (div-lt_iff_lt-mul {k = byte_values} (lit< tt)).1 (rw pow-suc at small) in
    ap (λ h. x % byte_values + byte_values * h) (back n (x / byte_values) high) ∙ mod-add-div x byte_values

bytes_length : (n x : ℕ) → length (bytes_of n x) ≡ n
unfolding bytes_of
bytes_length zero x = refl
bytes_length (suc n) x = ap suc (bytes_length n (x / byte_values))

-- words behind the bytes of k words
words_back : (front : List ℕ) (k : ℕ) {ws : List ℕ} → length front ≡ word_bytes * k → WordSized ws → table (word_at (front ++ all_bytes ws)) k (length ws) ≡ ws
unfolding table all_bytes
words_back front k long nothing = refl
words_back front k long (word {x} {xs} small rest) =
    let whole : front ++ (bytes_of word_bytes x ++ all_bytes xs) ≡ (front ++ bytes_of word_bytes x) ++ all_bytes xs = sym (append_assoc front (bytes_of word_bytes x) (all_bytes xs)) in
    let longer : length (front ++ bytes_of word_bytes x) ≡ word_bytes * (k + 1) = rw length-append (omega (arith, bytes_length word_bytes x)) in
    ap (λ w. w ∷ table (word_at (front ++ (bytes_of word_bytes x ++ all_bytes xs))) (k + 1) (length xs)) (here front k x xs long small)
    ∙ ap (λ l. x ∷ table (word_at l) (k + 1) (length xs)) whole
    ∙ ap (λ l. x ∷ l) (words_back (front ++ bytes_of word_bytes x) (k + 1) longer rest)
  where
    here : (front : List ℕ) (k x : ℕ) (xs : List ℕ) → length front ≡ word_bytes * k → x < 2 ^ 32 → word_at (front ++ (bytes_of word_bytes x ++ all_bytes xs)) k ≡ x
    here front k x xs long small =
        unfold word_at in
        (ap (λ l. little_endian (take word_bytes l)) (drop_at front (bytes_of word_bytes x ++ all_bytes xs) (word_bytes * k) long)
        ∙ ap little_endian (take_at (bytes_of word_bytes x) (all_bytes xs) word_bytes (bytes_length word_bytes x))
        ∙ back word_bytes x small)

pub bytes_read_back : (ws : List ℕ) → WordSized ws → unpacked (all_bytes ws) (length ws) ≡ ws
bytes_read_back ws small = words_back [] 0 refl small

pub all_bytes_length : (ws : List ℕ) → length (all_bytes ws) ≡ word_bytes * length ws
unfolding all_bytes
all_bytes_length [] = refl
all_bytes_length (x ∷ xs) = rw length-append (omega (arith, bytes_length word_bytes x, all_bytes_length xs))

pub sized_append : {xs ys : List ℕ} → WordSized xs → WordSized ys → WordSized (xs ++ ys)
sized_append nothing then = then
sized_append (word small rest) then = word small (sized_append rest then)
