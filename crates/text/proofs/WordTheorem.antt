-- Every word of a text fits four bytes, since it is below 2 ^ 32; so reading the bytes of a text's words gives them back. Assumes nothing.
use Prim.Native.Nat.{ℕ, zero, suc, ◌^◌, ◌<◌}
use mathlib.Core.Path.{◌≡◌, refl, subst}
use mathlib.Core.Bool.{Bool, true, false, cond, ◌&&◌}
use mathlib.Core.Option.{Option, none, some}
use mathlib.Core.List.{List, [], ◌∷◌}
use lib.ListN.{length}
use lib.Dec.{ltb}
use borrow.Author.Tests.{ltb-true}
use Rattle.records.specs.RecordForm.{unpacked}
use Rattle.ascii.specs.Bytes.{all_digits, decimal_from}
use Rattle.text.specs.Text.{Field, word_from, word_of, Reading, Words, NoWord, NoRoom, Long, in_front, read, reading}
use Rattle.records.specs.Bytes.{all_bytes, WordSized, nothing, word}
use Rattle.records.proofs.BytesTheorem.{bytes_read_back}

-- what a reading finds is words
abbrev Fine : Reading → Type 0
Fine (Words xs) = WordSized xs
Fine (NoWord n) = Unit
Fine (NoRoom n) = Unit
Fine Long = Unit

fine_in_front : (x : ℕ) (r : Reading) → x < 2 ^ 32 → Fine r → Fine (in_front x r)
fine_in_front x (Words xs) small fine = word small fine
fine_in_front x (NoWord n) small fine = tt
fine_in_front x (NoRoom n) small fine = tt
fine_in_front x Long small fine = tt

abbrev Fits : Option ℕ → Type 0
Fits none = Unit
Fits (some x) = x < 2 ^ 32

word_fits : (v : ℕ) (bs : List ℕ) → Fits (word_from v bs)
unfolding word_from
word_fits v bs = by_case (all_digits bs) (ltb (decimal_from v bs) (2 ^ 32)) refl
  where
    by_case : (a b : Bool) → ltb (decimal_from v bs) (2 ^ 32) ≡ b → Fits (cond (a && b) (some (decimal_from v bs)) none)
    by_case true true e = ltb-true _ _ e
    by_case true false e = tt
    by_case false b e = tt

fine_field : (o : Option ℕ) (room n : ℕ) (rest : ℕ → Reading) → Fits o → ((k : ℕ) → Fine (rest k))
    → Fine (elim o [ none ↦ NoWord n | some x ↦ elim room [ zero ↦ NoRoom n | suc k ↦ in_front x (rest k) ] ])
fine_field none room n rest fits fine = tt
fine_field (some x) zero n rest fits fine = tt
fine_field (some x) (suc k) n rest fits fine = fine_in_front x (rest k) fits (fine k)

fine_read : (fs : List Field) (room : ℕ) → Fine (read room fs)
unfolding read
fine_read [] room = nothing
fine_read (f ∷ fs) room = fine_field (word_of f.bytes) room f.line (λ k. read k fs) (word_fits 0 f.bytes) (fine_read fs)

-- so the bytes of the words of a text are read as those words
pub text_read_back : (room : ℕ) (text ws : List ℕ) → reading room text ≡ Words ws → unpacked (all_bytes ws) (length ws) ≡ ws
unfolding reading
text_read_back room text ws is = bytes_read_back ws (subst Fine is (fine_read _ room))
