-- What a program prints of a tally and of a refusal, and what it has read and printed. Assumes nothing.
use Rattle.std.specs.Prelude.{ℕ, ◌≤◌, ◌<◌, ◌≡◌, true, false, List, [], ◌∷◌, length, take, drop}
use Rattle.io.specs.Counts.{IsPrefixLen}
use Rattle.ascii.specs.Bytes.{ascii}
use Rattle.lines.specs.Lines.{line}
use Rattle.refusal.specs.Refusal.{Told}
use Rattle.tally.specs.declared.Tally.{Tally}
use Rattle.program.specs.declared.input.Input.{Input}
use Rattle.program.specs.declared.input.Done.{Done}
use Rattle.records.specs.Between.Needed.{bytes_to_read}

-- a line of a word, and the steps and the price of a tally
abbrev pub tally_line : List ℕ → Tally → List ℕ
tally_line word t = line word (t.steps ∷ t.cost ∷ [])

-- "A refusal prints `refused`, number, place"
abbrev pub refusal_line : Told → List ℕ
refusal_line t = line (ascii "refused") (t.number ∷ t.place ∷ [])

-- what has been read stands at the front of the bytes lent: all that must be read to tell the form of the input, or,
-- where the input ended early, fewer
pub record HasRead (further beyond : ℕ) (bytes : List ℕ) (input : Input) : Type 0 where
  pub counted : IsPrefixLen input.count bytes
  pub enough : input.ended ≡ false → bytes_to_read further beyond (take input.count bytes) ≤ input.count
  pub short : input.ended ≡ true → input.count < bytes_to_read further beyond (take input.count bytes)

-- what a program that reads so many further words behind the plan, and prints this text of its input, has done: what it
-- has read, and its answer, which is the text of the bytes read; every other byte is as it was
pub record HasDone (further : ℕ) (text : List ℕ → List ℕ) (bytes : List ℕ) (done : Done) (before after : List ℕ)
    : Type 0 where
  pub read : HasRead further 1 bytes done.input
  pub printed : take done.written after ≡ text (take done.input.count bytes)
  pub others : drop done.written after ≡ drop done.written before

-- what is assumed of a reader's `read`: the bytes read are the input's first, in order, and where the reading
-- ended early they are all that it has
pub record ReadFrom (whole bytes : List ℕ) (input : Input) : Type 0 where
  pub in_order : take input.count bytes ≡ take input.count whole
  pub at_end : input.ended ≡ true → length whole ≤ input.count
