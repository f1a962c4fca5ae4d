-- What each step of a list costs, and what becomes of it by the mask of a reduction and by that of marks: a row of
-- words for each step, and the service that writes them. Assumes nothing.
use Rattle.std.specs.Prelude.{ℕ, ◌+◌, ◌≡◌, not, length, get_or, take}
use mathlib.Core.List.{List, ◌∷◌, ◌++◌, map, flatten}
use Rattle.std.proofs.lemmas.List.Edits.{sets}
use Rattle.refusal.specs.Check.{Check, answer, unless_refused}
use Rattle.tally.specs.declared.Tally.{Tally}
use Rattle.tally.specs.Tally.{nothing}
use Rattle.sheet.specs.Decode.{action, table}
use Rattle.plan.specs.Limits.{most_steps}
use Rattle.plan.specs.Checked.{Answer}
use Rattle.plan.specs.Checked.{read_checks, told_answer, told_tally, lodged_tally}
use Rattle.reduction.specs.Reduction.{Reduction, kept}
use Rattle.mask.specs.Mask.{digit, bit_up}
use Rattle.lent.specs.Words.{tally_words}

-- the reduction of n steps that a mask tells: the step at index i is kept where bit i is one
abbrev pub of_mask : List ℕ → ℕ → Reduction
of_mask mask n = table (bit_up mask) 0 n

-- the steps that a reduction strikes, as the reduction that keeps just these
abbrev pub struck_by : Reduction → Reduction
struck_by m = map not m

module _ (w l : List ℕ) where
  -- the tally of those of the first n steps that a reduction keeps: the sum of their prices and their number
  abbrev pub tally_up_to : ℕ → Reduction → Tally
  tally_up_to n m = lodged_tally w (kept m (take n l))

module _ (w l mask : List ℕ) where
  -- the row of the step at index i: its price; one where it is kept, and one where it is marked; then the tally of the
  -- steps up to it, of those among them that are kept, and of those that are struck
  unfoldable pub row : List ℕ → ℕ → List ℕ
  row marks i =
      (action w (get_or l i 0)).cost
      ∷ digit (bit_up mask i)
      ∷ digit (bit_up marks i)
      ∷ (tally_words (lodged_tally w (take (i + 1) l))
      ++ (tally_words (tally_up_to w l (i + 1) (of_mask mask (length l)))
      ++ tally_words (tally_up_to w l (i + 1) (struck_by (of_mask mask (length l))))))

  -- the rows of all steps, one behind the other
  abbrev pub all_rows : List ℕ → List ℕ
  all_rows marks = flatten (table (row marks) 0 (length l))

  -- what is saved: the tally of all struck steps
  abbrev pub saved : Tally
  saved = lodged_tally w (kept (struck_by (of_mask mask (length l))) l)

-- the checks: those of what is read, 1 to 9
abbrev pub moves_checks : List ℕ → List ℕ → List Check
moves_checks w l = read_checks most_steps w l

-- the service: the rows over `before`, and what is saved; a refusal leaves every word
pub record Moves (w l mask marks : List ℕ) (given : Answer) (before after : List ℕ) : Type 0 where
  pub refusal : told_answer given ≡ answer (moves_checks w l)
  pub tally : told_tally given ≡ unless_refused (answer (moves_checks w l)) (saved w l mask) nothing
  pub rows : after ≡ unless_refused (answer (moves_checks w l)) (sets before 0 (all_rows w l mask marks)) before
