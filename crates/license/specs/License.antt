-- What the program that licenses a list prints for the bytes of its input, which it reads as document 01's program does
-- ("Worked lists"). Assumes nothing.
use Rattle.std.specs.Prelude.{ℕ, List}
use Rattle.program.specs.Printed.{refusal_line}
use Rattle.program.specs.Reply.{reply}
use Rattle.claim_report.specs.Licensed.{licensed}

-- what is printed for the bytes of an input
abbrev pub printed : List ℕ → List ℕ
printed bytes = reply refusal_line licensed bytes
