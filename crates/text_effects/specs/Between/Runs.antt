-- Numbers of a line that are read one after the other, and what ends an effect. Only contracts cite this file, so it
-- need not be believed. Assumes nothing.
use Rattle.std.specs.Prelude.{ℕ, ◌+◌, ◌*◌, ◌≤◌, ◌<◌, ◌≡◌, Bool, true, false, List, [], ◌∷◌, ◌++◌, length}
use Rattle.std.specs.Prelude.{Option, Some, None}
use Rattle.std.specs.Borrow.{Bor}
use Rattle.std.proofs.lemmas.List.Edits.{sets}
use Rattle.fields.specs.Between.Numbers.{any_value}
use Rattle.fields.specs.Between.Fields.{all_plain}
use Rattle.fields.specs.Between.Reading.{HasNumbers, LacksNumbers}
use Rattle.form.specs.Between.Form.{Head, numbers_fit}

-- n numbers that are read, each with a space behind it, with `rest` behind them, and put on the tape from index `from`
-- on: a line that goes on with others has them all
pub record HasRun (bytes tape : List ℕ) (from n : ℕ) (rest tape' : List ℕ) : Type 0 where
  pub xs : List ℕ
  pub many : length xs ≡ n
  pub all_are_plain : all_plain xs ≡ true
  pub stored : tape' ≡ sets tape from xs
  pub ahead : length rest + 2 * n ≤ length bytes
  pub has : (ys behind : List ℕ) → HasNumbers rest ys behind → HasNumbers bytes (xs ++ ys) behind
  pub lacks : (test : List ℕ → Bool) → LacksNumbers (λ ys. test (xs ++ ys)) rest → LacksNumbers test bytes

-- a test that fails where fewer than n numbers are there, or one of the first n is −1
pub record AsksRun (n : ℕ) (test : List ℕ → Bool) : Type 0 where
  pub short : (xs : List ℕ) (v : ℕ) → length xs < n → test (xs ++ (v ∷ [])) ≡ false
  pub sign : (xs ys : List ℕ) → length xs < n → test (xs ++ (any_value ∷ ys)) ≡ false

abbrev pub ReadsRun : List ℕ → List ℕ → ℕ → ℕ → Option (Bor (List ℕ)) → List ℕ → Type 0
ReadsRun bytes tape from n (Some rest) tape' = HasRun bytes tape from n rest.now tape'
ReadsRun bytes tape from n None tape' = (test : List ℕ → Bool) → AsksRun n test → LacksNumbers test bytes

-- the numbers that end an effect or a head of an axiom, read and put on the tape
pub record HasChange (bytes tape : List ℕ) (from : ℕ) (rest tape' : List ℕ) : Type 0 where
  pub variable : ℕ
  pub old : ℕ
  pub new : ℕ
  pub fits : numbers_fit Head (variable ∷ old ∷ new ∷ []) ≡ true
  pub stored : tape' ≡ sets tape from (variable ∷ old ∷ new ∷ [])
  pub ahead : length rest + 6 ≤ length bytes
  pub has : HasNumbers bytes (variable ∷ old ∷ new ∷ []) rest

abbrev pub ReadsChange : List ℕ → List ℕ → ℕ → Option (Bor (List ℕ)) → List ℕ → Type 0
ReadsChange bytes tape from (Some rest) tape' = HasChange bytes tape from rest.now tape'
ReadsChange bytes tape from None tape' = LacksNumbers (numbers_fit Head) bytes
