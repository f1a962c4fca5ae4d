-- Words in lines of ten, line by line: the number of lines that is allowed does not matter where it is large enough. Assumes nothing.
use Prim.Native.Nat.{ℕ, zero, suc, ◌≤◌, ◌<◌, min}
use native.Mathlib.Omega.{arith}
use mathlib.Core.Path.{◌≡◌, refl, sym, ◌∙◌, ap}
use mathlib.Core.List.{List, [], ◌∷◌, ◌++◌, append_assoc}
use lib.ListN.{length, take, drop, length-drop}
use lib.Seq.{take-append_seam, drop-append_seam}
use Rattle.std.proofs.lemmas.List.{take_min, drop_min}
use Rattle.lines.specs.Lines.{line}
use Rattle.word_rows.specs.Rows.{rows_within, rows}

enough_lines : (n m : ℕ) (ws : List ℕ) → length ws ≤ n → length ws ≤ m → rows_within n ws ≡ rows_within m ws
unfolding rows_within
enough_lines zero zero ws low high = refl
enough_lines zero (suc m) [] low high = refl
enough_lines zero (suc m) (x ∷ xs) low high = absurd (omega arith)
enough_lines (suc n) zero [] low high = refl
enough_lines (suc n) zero (x ∷ xs) low high = absurd (omega arith)
enough_lines (suc n) (suc m) [] low high = refl
enough_lines (suc n) (suc m) (x ∷ xs) low high =
    let left = length-drop 10 (x ∷ xs) in
    ap (λ t. line [] (take 10 (x ∷ xs)) ++ t) (enough_lines n m (drop 10 (x ∷ xs)) (omega (arith, left)) (omega (arith, left)))

-- no word, and the first line of words
pub rows_nothing : (ws : List ℕ) → length ws ≤ 0 → rows ws ≡ []
unfolding rows rows_within
rows_nothing [] none_there = refl
rows_nothing (x ∷ xs) none_there = absurd (omega arith)

rows_first : (ws : List ℕ) → 0 < length ws → rows ws ≡ line [] (take 10 ws) ++ rows (drop 10 ws)
unfolding rows rows_within
rows_first [] some_there = absurd (omega arith)
rows_first (x ∷ xs) some_there =
    let left = length-drop 10 (x ∷ xs) in
    ap (λ t. line [] (take 10 (x ∷ xs)) ++ t) (enough_lines (length xs) (length (drop 10 (x ∷ xs))) (drop 10 (x ∷ xs)) (omega (arith, left)) (omega arith))

-- the words of a line in front of those that are left
module _ (row left : List ℕ) (some_there : 0 < length (row ++ left)) (long : length row ≡ min 10 (length (row ++ left))) where
  taken : take 10 (row ++ left) ≡ row
  taken = sym (take_min 10 (row ++ left)) ∙ rw (← long) (take-append_seam row left)

  dropped : drop 10 (row ++ left) ≡ left
  dropped = sym (drop_min 10 (row ++ left)) ∙ rw (← long) (drop-append_seam row left)

  rows_from : rows (row ++ left) ≡ line [] row ++ rows left
  rows_from = rows_first (row ++ left) some_there ∙ ap (λ l. line [] l ++ rows (drop 10 (row ++ left))) taken ∙ ap (λ l. line [] row ++ rows l) dropped

  -- so what is put, and the lines of the words left, stay the lines of all words
  pub row_put : (done all : List ℕ) → done ++ rows (row ++ left) ≡ all → (done ++ line [] row) ++ rows left ≡ all
  row_put done all are = append_assoc done (line [] row) (rows left) ∙ ap (λ t. done ++ t) (sym rows_from) ∙ are
