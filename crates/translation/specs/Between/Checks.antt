-- What is answered to a planner's text, as it is computed: by checks of its lines and of its numbers, in the order in
-- which they run (`told_of_bytes` says that it is what document 02 asks for). Assumes nothing.
use Rattle.std.specs.Prelude.{ℕ, ◌≤◌, ◌≡◌, not, List, [], ◌∷◌, length, take, drop, ltb, Result, Ok, Err}
use Rattle.refusal.specs.Place.{when}
use Rattle.refusal.specs.Check.{Check, answer}
use Rattle.sas.specs.Task.{Task}
use Rattle.sheet.specs.Layout.{first_edition}
use Rattle.sheet.specs.Between.Encode.{encode}
use Rattle.planner.specs.Text.{most_bytes}
use Rattle.form.specs.Between.Form.{broken_line, unsupported_line, numbers_of}
use Rattle.meaning.specs.Between.Sections.{meaning}
use Rattle.meaning.specs.Between.Order.{ordered}
use Rattle.meaning.specs.Between.Writable.{writable}
use Rattle.refusal.specs.declared.Refusal.{Refusal}
use Rattle.translation.specs.Translation.{told_translated}

-- the task that a text means, and the words of its sheet, each group of facts in rising order
abbrev pub text_task : List ℕ → Task
text_task text = meaning (numbers_of text)

abbrev pub text_sheet : List ℕ → List ℕ
text_sheet text = encode first_edition (ordered (text_task text))

-- 15: the sheet would break a limit or a rule of document 01; then 10: it is longer than the room for it
unfoldable pub task_checks : List ℕ → ℕ → List Check
task_checks x room =
    let words : ℕ = length (encode first_edition (ordered (meaning x))) in
    record { number = 15; fires = when (not (writable (meaning x))) 0 }
    ∷ record { number = 10; fires = when (ltb room words) words }
    ∷ []

-- the checks of a text, in the order in which they run: 13 for a longer text and for one that breaks the form, 14 for
-- what a sheet can't say, then those of the task
unfoldable pub translation_checks : List ℕ → ℕ → List Check
translation_checks text room =
    record { number = 13; fires = when (ltb most_bytes (length text)) 0 }
    ∷ record { number = 13; fires = broken_line text }
    ∷ record { number = 14; fires = unsupported_line text }
    ∷ task_checks (numbers_of text) room

-- n words written at the front of `before`, and every word past them stays
pub record WritesSheet (T : Task) (before : List ℕ) (n : ℕ) (after : List ℕ) : Type 0 where
  pub room : n ≤ length before
  pub sheet : take n after ≡ encode first_edition (ordered T)
  pub counted : n ≡ length (encode first_edition (ordered T))
  pub rest : drop n after ≡ drop n before

-- the lent words after it: on a refusal no word changes
abbrev pub LeavesTask : Task → List ℕ → Result ℕ Refusal → List ℕ → Type 0
LeavesTask T before (Err r) after = after ≡ before
LeavesTask T before (Ok n) after = WritesSheet T before n after

-- the first check that fires is answered and no word changes, or none fires and the sheet is written
pub record AnswersChecks (text before : List ℕ) (r : Result ℕ Refusal) (after : List ℕ) : Type 0 where
  pub answers : told_translated r ≡ answer (translation_checks text (length before))
  pub leaves : LeavesTask (text_task text) before r after
