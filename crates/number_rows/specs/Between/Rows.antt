-- Lines of numbers, as the functions that read them tell them. Only their contracts cite this file, so it need not be
-- believed. Assumes nothing.
use Rattle.std.specs.Prelude.{ℕ, ◌≡◌, Bool, true, false, ◌&&◌, List, [], ◌∷◌, length, eqb}
use Rattle.fields.specs.Between.Fields.{all_plain}
use Rattle.form.specs.Between.Form.{Row, Fact, PassedFact, numbers_fit, row_keeps, row_bars}

-- a line of one number that is kept or not, and that every sheet can say
pub record PlainRow (keeps : Bool) (row : Row) : Type 0 where
  pub fits : (xs : List ℕ) → numbers_fit row xs ≡ eqb (length xs) 1 && all_plain xs
  pub kept : row_keeps row ≡ keeps
  pub passes : (xs : List ℕ) → row_bars row xs ≡ false

-- a line of a fact that is kept or not
abbrev pub fact_row : Bool → Row
fact_row true = Fact
fact_row false = PassedFact
