-- What the functions that write a sheet answer. Only their contracts cite this file, so it need not be believed.
-- Assumes nothing.
use Rattle.std.specs.Prelude.{ℕ, Option, ◌≤◌, ◌≡◌, true, List, length, take}
use Rattle.sheet.specs.Layout.{first_edition}
use Rattle.sheet.specs.Between.Encode.{encode}
use Rattle.meaning.specs.Between.Sections.{meaning}
use Rattle.meaning.specs.Between.Order.{ordered}
use Rattle.meaning.specs.Between.Writable.{writable}
use Rattle.task_sheet.specs.Between.Parts.{ends_if}

-- the words of the sheet of the task that numbers mean
abbrev pub sheet_words : List ℕ → List ℕ
sheet_words x = encode first_edition (ordered (meaning x))

-- they stand at the front of words, where a sheet can say the task and there is room
pub record Builds (x before after : List ℕ) (r : Option ℕ) : Type 0 where
  pub words : r ≡ ends_if (writable (meaning x)) (length (sheet_words x))
  pub written : writable (meaning x) ≡ true → length (sheet_words x) ≤ length before
      → take (length (sheet_words x)) after ≡ sheet_words x
