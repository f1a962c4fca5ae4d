-- How long a text is. Assumes nothing.
use Rattle.std.specs.Prelude.{ℕ, ◌+◌}
use Rattle.sheet.specs.Limits.{limits}
use Rattle.plan.specs.Limits.{most_steps}

-- the most words of a text, one more than the longest sheet and the longest list have with its length
abbrev pub most : ℕ
most = limits.words + 1 + most_steps + 1

-- the most bytes of a text
abbrev pub most_text : ℕ
most_text = 1048576
