-- Numbers that count lines. Only contracts cite this file, so it need not be believed. Assumes nothing.
use Rattle.std.specs.Prelude.{ℕ, ◌≡◌, Bool, List}
use Rattle.form.specs.Between.Form.{Count, Counted, Due, after_count, times}
use Rattle.number_rows.specs.Between.Rows.{PlainRow}

-- a number that counts how often these lines follow, and is kept or not
pub record Counts (keeps : Bool) (what : Counted) (ds : List Due) : Type 0 where
  pub plain_count : PlainRow keeps (Count what)
  pub lines : (n : ℕ) → after_count what n ≡ times n ds
