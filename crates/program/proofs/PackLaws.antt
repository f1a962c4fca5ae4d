-- The bytes of words, put one word after the other: none, and one word more. Assumes nothing.
use Prim.Native.Nat.{ℕ, ◌+◌, ◌/◌, ◌^◌, ◌<◌}
use native.Mathlib.Numerals.{add-one}
use native.Mathlib.Omega.{arith}
use mathlib.Core.Path.{◌≡◌, sym, ◌∙◌, ap}
use mathlib.Core.List.{List, [], ◌∷◌, ◌++◌, append_assoc, append-nil}
use lib.ListN.{length, take, get_or}
use lib.Seq.{take-suc}
use Rattle.std.specs.Int.{w32, to_le_bytes}
use Rattle.lines.specs.Puts.{Puts}
use Rattle.lines.specs.declared.Page.{Page}
use Rattle.lines.proofs.PutsLaws.{puts_nothing, puts_as, puts_both}
use Rattle.records.specs.RecordForm.{word_bytes}
use Rattle.records.specs.Bytes.{bytes_of, all_bytes}

bytes_last : (xs : List ℕ) (x : ℕ) → all_bytes (xs ++ (x ∷ [])) ≡ all_bytes xs ++ bytes_of word_bytes x
unfolding all_bytes
bytes_last [] x = append-nil (bytes_of word_bytes x)
bytes_last (y ∷ xs) x = ap (λ l. bytes_of word_bytes y ++ l) (bytes_last xs x) ∙ sym (append_assoc (bytes_of word_bytes y) (all_bytes xs) (bytes_of word_bytes x))

-- the library's bytes of a word
low_first : (x : ℕ) → to_le_bytes w32 x ≡ bytes_of word_bytes x
unfolding bytes_of
low_first x =
    let third : x / 256 ^ 2 ≡ x / 256 / 256 = omega arith in
    let fourth : x / 256 ^ 3 ≡ x / 256 / 256 / 256 = omega arith in
    rw (third, fourth)

pub no_word_put : (page : Page) → Puts (all_bytes []) page page
unfolding all_bytes
no_word_put page = puts_nothing page

pub word_put : {before between after : Page} {bytes : List ℕ} (words : List ℕ) (i : ℕ) → i < length words → Puts (all_bytes (take i words)) before between
    → bytes ≡ to_le_bytes w32 (get_or words i 0) → Puts bytes between after → Puts (all_bytes (take (i + 1) words)) before after
word_put words i low first are second =
    let x = get_or words i 0 in
    rw (add-one i, take-suc words i 0 low) (puts_as (sym (bytes_last (take i words) x)) (puts_both first (puts_as (are ∙ low_first x) second)))
