-- What reading a whole text finds. Assumes nothing.
use Rattle.std.specs.Prelude.{ℕ, ◌+◌, ◌*◌, cond, List, length, ltb, Result, Ok, Err}
use Rattle.form.specs.Between.Form.{whole, walked, numbers_of, unsupported_line}
use Rattle.form.specs.Between.Reading.{Outcome}
use Rattle.form.specs.Between.Reading.Outcome.{Broken, Whole}
use Rattle.text_sections.specs.declared.text.Numbers.{Numbers}

-- what reading a whole text finds
unfoldable pub text_outcome : List ℕ → Outcome
text_outcome text =
    cond (whole (walked text)) (Whole (numbers_of text) (unsupported_line text))
    (Broken (length (walked text).read + 1))

-- what reading a text to a tape with so much room finds: a text with more bytes than room for half as many numbers is
-- broken before its first line
unfoldable pub found_in : ℕ → List ℕ → Outcome
found_in room text = cond (ltb (2 * room) (length text)) (Broken 0) (text_outcome text)

-- what the code answers
abbrev pub outcome_of : Result Numbers ℕ → Outcome
outcome_of (Ok numbers) = Whole numbers.kept.now numbers.barred
outcome_of (Err n) = Broken n
