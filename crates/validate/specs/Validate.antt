-- What the program that checks a plan (document 01: list) prints for the bytes of its input. Assumes nothing.
use Rattle.std.specs.Prelude.{ℕ, List}
use Rattle.std.proofs.Math.Option.{none, some}
use Rattle.ascii.specs.Bytes.{ascii}
use Rattle.refusal.specs.Check.{answer}
use Rattle.plan.specs.Checked.{plan_checks, lodged_tally}
use Rattle.program.specs.Printed.{tally_line, refusal_line}
use Rattle.program.specs.Reply.{reply}

-- of the list l of the sheet w: its steps and its price, or the refusal
unfoldable pub checked : List ℕ → List ℕ → List ℕ
checked w l =
    elim (answer (plan_checks w l)) [
      | none ↦ tally_line (ascii "lodged") (lodged_tally w l)
      | some t ↦ refusal_line t
    ]

-- what is printed for the bytes of an input
abbrev pub printed : List ℕ → List ℕ
printed bytes = reply refusal_line checked bytes
