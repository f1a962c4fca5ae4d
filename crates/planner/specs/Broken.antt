-- Which bytes are a planner's text, and the place of a line that breaks the form (document 02, C-11: "place the first
-- such line from 1, a missing one too"). Assumes nothing.
use Rattle.std.specs.Prelude.{ℕ, ◌+◌, ◌≡◌, length}
use mathlib.Core.List.{List, [], ◌∷◌, ◌++◌, map, Memᴰ}
use Rattle.ascii.specs.Bytes.{line_end, ends_line, runs, split}
use Rattle.planner.specs.Text.{Text}
use Rattle.planner.specs.Printed.{Line, lines, printed}

-- a line holds no line end
abbrev pub OneLine : List ℕ → Type 0
OneLine bytes = Memᴰ line_end bytes → ⊥

-- a text whose names are lines, and whose state has a value for each variable
pub record Formed (t : Text) : Type 0 where
  pub one_each : (l : Line) → Memᴰ l (lines t) → OneLine l.bytes
  pub values : length t.state ≡ length t.variables

-- the bytes are those of the text t
pub record Prints (t : Text) (bytes : List ℕ) : Type 0 where
  pub formed : Formed t
  pub print : printed t ≡ bytes

-- these lines begin some text
pub record Begins (ls : List (List ℕ)) : Type 0 where
  pub text : Text
  pub formed : Formed text
  pub behind : List (List ℕ)
  pub goes_on : map (λ l. l.bytes) (lines text) ≡ ls ++ behind

-- line n breaks the form: the lines before it begin a text, and with it they don't; where it is not ended, it is what
-- is behind the last line end, and all bytes are no text
pub record Breaks (bytes : List ℕ) (n : ℕ) : Type 0 where
  pub before : List (List ℕ)
  pub line : List ℕ
  pub behind : List (List ℕ)
  pub parts : runs (split ends_line bytes) ≡ before ++ (line ∷ behind)
  pub place : n ≡ length before + 1
  pub begins : Begins before
  pub ended : (behind ≡ [] → ⊥) → Begins (before ++ (line ∷ [])) → ⊥
  pub unended : behind ≡ [] → (t : Text) → Prints t bytes → ⊥
