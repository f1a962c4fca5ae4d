-- What the rows say of a reduction that a service has told by its mask: it is that reduction, and what is saved and what is left make what was lodged. By
-- induction along the steps. Assumes nothing.
use Prim.Native.Nat.{ℕ, ◌+◌, ◌≤◌}
use native.Mathlib.Omega.{arith}
use mathlib.Core.Path.{◌≡◌, refl, sym, ◌∙◌}
use mathlib.Core.Bool.{true, false}
use mathlib.Core.List.{List, [], ◌∷◌}
use lib.ListN.{length}
use lib.Seq.{ext_get_or}
use Rattle.sas.specs.Plan.{cost}
use Rattle.sheet.proofs.TableLaws.{table_length, table_at}
use Rattle.plan.specs.Valid.{steps}
use Rattle.plan.specs.Checked.{lodged_tally}
use Rattle.reduction.specs.Reduction.{Reduction, kept}
use Rattle.mask.specs.Mask.{mask_bits, mask_words, bit_up}
use Rattle.mask.proofs.MaskTheorem.{up_is_flag}
use Rattle.moves.specs.Moves.{of_mask, struck_by, saved}

-- a mask tells the reduction that it is made of
pub told_back : (m : Reduction) (n : ℕ) → length m ≡ n → n ≤ mask_bits → of_mask (mask_words m) n ≡ m
told_back m n fits few =
    let long : length (of_mask (mask_words m) n) ≡ n = table_length (bit_up (mask_words m)) 0 n in
    ext_get_or false (of_mask (mask_words m) n) m (long ∙ sym fits)
    (λ i here. table_at (bit_up (mask_words m)) 0 n i i false (omega (arith, long)) (omega arith) ∙ up_is_flag m (omega arith) i)

-- what is kept and what is struck make the whole
parts_cost : (w l : List ℕ) (m : Reduction) → length m ≡ length l → cost (steps w (kept m l)) + cost (steps w (kept (struck_by m) l)) ≡ cost (steps w l)
unfolding kept cost
parts_cost w [] m fits = refl
parts_cost w (a ∷ l) [] fits = absurd (omega arith)
parts_cost w (a ∷ l) (true ∷ m) fits = omega (arith, parts_cost w l m (omega arith))
parts_cost w (a ∷ l) (false ∷ m) fits = omega (arith, parts_cost w l m (omega arith))

parts_length : (l : List ℕ) (m : Reduction) → length m ≡ length l → length (kept m l) + length (kept (struck_by m) l) ≡ length l
unfolding kept
parts_length [] m fits = refl
parts_length (a ∷ l) [] fits = absurd (omega arith)
parts_length (a ∷ l) (true ∷ m) fits = omega (arith, parts_length l m (omega arith))
parts_length (a ∷ l) (false ∷ m) fits = omega (arith, parts_length l m (omega arith))

-- what is left and what is saved make what was lodged, in price and in steps
pub saved_and_left : (w l : List ℕ) (m : Reduction) → length m ≡ length l → length l ≤ mask_bits
    → ((lodged_tally w (kept m l)).cost + (saved w l (mask_words m)).cost ≡ (lodged_tally w l).cost)
    × ((lodged_tally w (kept m l)).steps + (saved w l (mask_words m)).steps ≡ (lodged_tally w l).steps)
saved_and_left w l m fits few = rw (told_back m (length l) fits few) (parts_cost w l m fits, parts_length l m fits)
