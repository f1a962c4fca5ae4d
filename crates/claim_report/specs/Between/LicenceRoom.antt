-- How many bytes are printed for a list that is licensed. Assumes nothing.
use Rattle.std.specs.Prelude.{ℕ, ◌+◌}
use Rattle.program.specs.Between.Room.{line_room}
use Rattle.report.specs.Between.Reported.{report_room}

-- the most: the line of a claim, and a report
abbrev pub licence_room : ℕ
licence_room = line_room + report_room
