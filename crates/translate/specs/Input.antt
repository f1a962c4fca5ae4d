-- How far an input was read. Assumes nothing.
use Rattle.std.specs.Prelude.{ℕ, ◌≤◌, ◌<◌, ◌≡◌, ◌⊎◌, List, length, take, Some}
use Rattle.io.specs.Counts.{IsPrefixLen}
use Rattle.translate.specs.declared.input.Input.{Input}

-- what has been read stands at the front of the bytes lent. Where the last call of `read` did not
-- fail, it gave no byte, which is the input's end, or the bytes lent are full
pub record HasReadText (bytes : List ℕ) (input : Input) : Type 0 where
  pub counted : IsPrefixLen input.count bytes
  pub to_the_end : (k : ℕ) → input.last ≡ Some k → (k ≡ 0) ⊎ (input.count ≡ length bytes)

-- what is assumed of a reader's `read`: the bytes read are the input's first, in order, and where the last call
-- had room and gave no byte they are all that it has
pub record TextFrom (whole bytes : List ℕ) (input : Input) : Type 0 where
  pub in_order : take input.count bytes ≡ take input.count whole
  pub at_end : input.last ≡ Some 0 → input.count < length bytes → length whole ≤ input.count
