-- What the program answers: what it writes to standard output, and what it says on standard error. Assumes nothing.
use Rattle.std.specs.Prelude.{ℕ, List, [], ◌∷◌, ◌++◌}
use Rattle.ascii.specs.Bytes.{line_end}
use Rattle.lines.specs.Prints.{Prints}
use Rattle.translate.specs.declared.answer.Answered.{Answered}

pub record Answer : Type 0 where
  pub written : List ℕ
  pub said : List ℕ

-- a text is written, and nothing is said
abbrev pub only_writes : List ℕ → Answer
only_writes text = record { written = text; said = [] }

-- nothing is written, and a line is said
abbrev pub only_says : List ℕ → Answer
only_says what = record { written = []; said = what ++ (line_end ∷ []) }

-- an answer at the front of lent bytes: they hold it as far as there is room, and every other byte is as it was
pub record Gives (a : Answer) (out out' errors errors' : List ℕ) (r : Answered) : Type 0 where
  pub writing : Prints a.written 0 out out' r.written
  pub saying : Prints a.said 0 errors errors' r.said
