-- Runs of stores into lent words, one behind the other. Assumes nothing.
use Prim.Native.Nat.{ℕ, zero, suc, ◌+◌}
use native.Mathlib.Numerals.{add-one}
use mathlib.Core.Path.{◌≡◌, refl, ◌∙◌, ap}
use mathlib.Core.Option.{Option, none, some}
use mathlib.Core.List.{List, [], ◌∷◌, ◌++◌}
use lib.ListN.{set}
use lib.Seq.{sets, set-get_or}
use Rattle.refusal.specs.Refusal.{Told}
use Rattle.tally.specs.declared.Tally.{Tally}
use Rattle.sheet.specs.Layout.{word}
use Rattle.sheet.specs.Decode.{table}
use Rattle.lent.specs.Words.{answer_words, tally_words}

-- storing what stands there changes nothing
pub same_stored : (l : List ℕ) (i n : ℕ) → sets l i (table (word l) i n) ≡ l
unfolding table
same_stored l i zero = refl
same_stored l i (suc n) =
    ap (λ stored. sets stored (suc i) (table (word l) (i + 1) n)) (set-get_or l i 0)
    ∙ ap (λ k. sets l (suc i) (table (word l) k n)) (add-one i)
    ∙ same_stored l (suc i) n

-- an answer and two tallies, one behind the other
pub both_written : (l : List ℕ) (t : Option Told) (a b : Tally) → sets (sets (sets l 0 (answer_words t)) 2 (tally_words a)) 4 (tally_words b) ≡ sets l 0 (answer_words t ++ (tally_words a ++ tally_words b))
both_written l none a b = refl
both_written l (some t) a b = refl

-- an answer and a number behind it
pub counted_written : (l : List ℕ) (t : Option Told) (n : ℕ) → set (sets l 0 (answer_words t)) 2 n ≡ sets l 0 (answer_words t ++ (n ∷ []))
counted_written l none n = refl
counted_written l (some t) n = refl
