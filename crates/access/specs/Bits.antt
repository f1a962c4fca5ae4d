-- The bits of a wide word, stated here and nowhere else in the definitions. Assumes nothing.
use Rattle.std.specs.Prelude.{ℕ}

abbrev pub word_bits : ℕ
word_bits = 64
