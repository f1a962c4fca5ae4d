-- A text has no more words than there is room for. Assumes nothing.
use Prim.Native.Nat.{ℕ, zero, suc, ◌≤◌}
use native.Mathlib.Omega.{arith}
use mathlib.Core.Bool.{Bool, true, false, cond}
use mathlib.Core.Option.{Option, none, some}
use mathlib.Core.List.{List, [], ◌∷◌}
use lib.ListN.{length}
use lib.Dec.{ltb}
use Rattle.text.specs.Limits.{most_text}
use Rattle.text.specs.Text.{Field, word_of, Reading, Words, NoWord, NoRoom, Long, in_front, read, reading, found_in}

-- a reading has no more words than there is room for
abbrev pub Few : ℕ → Reading → Type 0
Few room (Words xs) = length xs ≤ room
Few room (NoWord n) = Unit
Few room (NoRoom n) = Unit
Few room Long = Unit

few_in_front : (room x : ℕ) (r : Reading) → Few room r → Few (suc room) (in_front x r)
few_in_front room x (Words xs) few = omega arith
few_in_front room x (NoWord n) few = tt
few_in_front room x (NoRoom n) few = tt
few_in_front room x Long few = tt

few_field : (o : Option ℕ) (room n : ℕ) (rest : ℕ → Reading) → ((k : ℕ) → Few k (rest k))
    → Few room (elim o [ none ↦ NoWord n | some x ↦ elim room [ zero ↦ NoRoom n | suc k ↦ in_front x (rest k) ] ])
few_field none room n rest few = tt
few_field (some x) zero n rest few = tt
few_field (some x) (suc k) n rest few = few_in_front k x (rest k) (few k)

few_read : (fs : List Field) (room : ℕ) → Few room (read room fs)
unfolding read
few_read [] room = omega arith
few_read (f ∷ fs) room = few_field (word_of f.bytes) room f.line (λ k. read k fs) (few_read fs)

pub few_found : (room : ℕ) (text : List ℕ) → Few room (found_in room text)
unfolding found_in reading
few_found room text = by_case (ltb most_text (length text)) (reading room text) (few_read _ room)
  where
    by_case : (b : Bool) (r : Reading) → Few room r → Few room (cond b Long r)
    by_case true r few = tt
    by_case false r few = few
