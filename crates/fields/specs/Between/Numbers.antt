-- The numbers of a planner's text that are told from others (document 02, C-11). Assumes nothing.
use Rattle.std.specs.Prelude.{ℕ, ◌+◌}
use Rattle.sheet.specs.Limits.{limits}

-- numbers "have any length": those above every limit of a sheet are all read as the first such number
abbrev pub most_number : ℕ
most_number = limits.cost + 1

-- what −1 is read as: above every number
abbrev pub any_value : ℕ
any_value = most_number + 1
