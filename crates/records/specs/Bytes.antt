-- Words as bytes, the lowest byte of each first; `little_endian` reads them back. Assumes nothing.
use Rattle.std.specs.Prelude.{ℕ, zero, suc, ◌/◌, ◌%◌, ◌^◌, ◌<◌, List, [], ◌∷◌, ◌++◌, length}
use Rattle.records.specs.RecordForm.{word_bytes, byte_values}

-- the n lowest bytes of a number
unfoldable pub bytes_of : ℕ → ℕ → List ℕ
bytes_of zero x = []
bytes_of (suc n) x = x % byte_values ∷ bytes_of n (x / byte_values)

-- the bytes of words, one after the other
unfoldable pub all_bytes : List ℕ → List ℕ
all_bytes [] = []
all_bytes (x ∷ xs) = bytes_of word_bytes x ++ all_bytes xs

-- the bytes of an input: the sheet w, the length of its list, and the list l
abbrev pub input_of : List ℕ → List ℕ → List ℕ
input_of w l = all_bytes (w ++ (length l ∷ l))

-- words: each fits four bytes
pub data WordSized : List ℕ → Type 0 where
  nothing : WordSized []
  word : {x : ℕ} {xs : List ℕ} → x < 2 ^ 32 → WordSized xs → WordSized (x ∷ xs)
