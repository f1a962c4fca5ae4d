-- What the program that shortens a list, by the minimal reduction (document 01: exact reduction), prints for the bytes
-- of its input (document 01, "Worked lists", on the program). Assumes nothing.
use Rattle.std.specs.Prelude.{ℕ, List}
use Rattle.program.specs.Printed.{refusal_line}
use Rattle.program.specs.Reply.{reply}
use Rattle.report.specs.Shortened.{shortened}

-- what is printed for the bytes of an input
abbrev pub printed : List ℕ → List ℕ
printed bytes = reply refusal_line shortened bytes
