-- The limit of a plan (document 01: list), stated here and nowhere else in the definitions. Assumes nothing.
use Rattle.std.specs.Prelude.{ℕ}

abbrev pub most_steps : ℕ
most_steps = 255
