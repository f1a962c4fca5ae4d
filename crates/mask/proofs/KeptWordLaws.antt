-- What the words of a reduction keep is what the reduction keeps: by induction on the flags of a word, and on the number of words. Assumes nothing.
use Prim.Native.Nat.{ℕ, zero, suc, ◌+◌, ◌-◌, ◌*◌, ◌≤◌}
use native.Mathlib.Nat.{mul-suc}
use native.Mathlib.Numerals.{add-one}
use native.Mathlib.Omega.{arith}
use mathlib.Core.Path.{◌≡◌, refl, sym, ap, ◌∙◌}
use mathlib.Core.Bool.{true, false}
use mathlib.Core.List.{List, [], ◌∷◌, ◌++◌, map-append}
use lib.ListN.{length, get_or, take, drop, length-take, length-drop}
use lib.Seq.{drop-cons, drop-drop}
use Rattle.reduction.specs.Reduction.{Reduction, kept}
use Rattle.mask.specs.Mask.{word_bits, binary, words_of}
use Rattle.access.specs.Between.Places.{ones_at, at_places}
use Rattle.access.proofs.OnesLaws.{ones_at_none}
use Rattle.mask.specs.Between.Places.{places}
use Rattle.mask.proofs.MaskWordLaws.{ones_at_kept, ones_at_struck}

kept_none : (plan : List ℕ) → kept [] plan ≡ []
unfolding kept
kept_none [] = refl
kept_none (a ∷ plan) = refl

-- a reduction keeps of the first steps what its first flags keep, and of the others what its others keep
kept_parts : (n : ℕ) (m : Reduction) (plan : List ℕ) → kept m plan ≡ kept (take n m) plan ++ kept (drop n m) (drop n plan)
unfolding kept
kept_parts zero m plan = rw kept_none
kept_parts (suc n) m [] = refl
kept_parts (suc n) [] (a ∷ plan) = sym (kept_none (drop n plan))
kept_parts (suc n) (true ∷ m) (a ∷ plan) = ap (λ rest. a ∷ rest) (kept_parts n m plan)
kept_parts (suc n) (false ∷ m) (a ∷ plan) = kept_parts n m plan

word_keeps : (plan : List ℕ) (i n : ℕ) (m : Reduction) → length m ≤ n → length m ≤ length plan - i
    → at_places plan (ones_at i n (binary m)) ≡ kept m (drop i plan)
unfolding binary kept
word_keeps plan i n [] short inside = rw (ones_at_none, kept_none)
word_keeps plan i zero (b ∷ m) short inside = absurd (omega arith)
word_keeps plan i (suc n) (true ∷ m) short inside =
    let next : drop i plan ≡ get_or plan i 0 ∷ drop (i + 1) plan = drop-cons plan i 0 (omega arith) ∙ rw add-one in
    rw (ones_at_kept, next, word_keeps plan (i + 1) n m (omega arith) (omega arith))
word_keeps plan i (suc n) (false ∷ m) short inside =
    let next : drop i plan ≡ get_or plan i 0 ∷ drop (i + 1) plan = drop-cons plan i 0 (omega arith) ∙ rw add-one in
    rw (ones_at_struck, next, word_keeps plan (i + 1) n m (omega arith) (omega arith))

pub words_keep : (plan : List ℕ) (n i : ℕ) (m : Reduction) → length m ≤ word_bits * n → length m ≤ length plan - i
    → at_places plan (places i (words_of n m)) ≡ kept m (drop i plan)
unfolding words_of places
words_keep plan zero i [] few inside = sym (kept_none (drop i plan))
words_keep plan zero i (b ∷ m) few inside = absurd (omega arith)
words_keep plan (suc n) i m few inside =
    let rest : length (drop word_bits m) ≡ length m - word_bits = length-drop word_bits m in
    let front : length (take word_bits m) ≤ word_bits = omega (arith, length-take word_bits m) in
    let here : length (take word_bits m) ≤ length plan - i = omega (arith, length-take word_bits m) in
    let later : at_places plan (places (i + word_bits) (words_of n (drop word_bits m))) ≡ kept (drop word_bits m) (drop (i + word_bits) plan) =
    words_keep plan n (i + word_bits) (drop word_bits m) (omega (arith, mul-suc word_bits n)) (omega arith) in
    rw (map-append, word_keeps plan i word_bits (take word_bits m) front here, later, ← drop-drop, ← kept_parts)
