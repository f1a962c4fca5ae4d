-- The room for the text of as many words as a text may have. Assumes nothing.
use Rattle.std.specs.Prelude.{ℕ}

abbrev pub text_bytes : ℕ
text_bytes = 131072
