-- Words laid out as a text, as lines of words with lines of comment between them: `LaysTheorem` shows that the words of
-- such a text are those words. Assumes nothing.
use Rattle.std.specs.Prelude.{ℕ, ◌≡◌, false, List, [], ◌∷◌, ◌++◌}
use Rattle.ascii.specs.Bytes.{line_end}
use Rattle.lines.specs.Lines.{spaced}
use Rattle.ascii.specs.Bytes.{ends_line}
use Rattle.text.specs.Text.{comment_sign}

-- bytes among which no line ends
pub data Unbroken : List ℕ → Type 0 where
  nothing : Unbroken []
  byte : {b : ℕ} {bs : List ℕ} → ends_line b ≡ false → Unbroken bs → Unbroken (b ∷ bs)

-- words as lines of words, with lines of comment between them
pub data Lays : List ℕ → List ℕ → Type 0 where
  nothing : Lays [] []
  comment : {note xs t : List ℕ} → Unbroken note → Lays xs t → Lays xs (comment_sign ∷ note ++ line_end ∷ t)
  words : (xs : List ℕ) {ys t : List ℕ} → Lays ys t → Lays (xs ++ ys) (spaced xs ++ line_end ∷ t)
