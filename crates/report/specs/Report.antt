-- The lines that a program prints of a list that is shortened (document 01, "Worked lists", on the program). Assumes
-- nothing.
use Rattle.std.specs.Prelude.{ℕ, ◌+◌, true, false, List, [], ◌∷◌, ◌++◌}
use Rattle.std.proofs.Math.Option.{Option, none, some}
use Rattle.ascii.specs.Bytes.{ascii}
use Rattle.lines.specs.Lines.{line, row}
use Rattle.refusal.specs.Refusal.{Told}
use Rattle.sheet.specs.Layout.{cost_word}
use Rattle.plan.specs.Checked.{lodged_tally}
use Rattle.reduction.specs.Reduction.{Reduction}
use Rattle.landmark.specs.Marks.{marked}
use Rattle.reduced.specs.Reduced.{tally_left}
use Rattle.program.specs.Printed.{tally_line, refusal_line}

-- "for each kept step its position, action and price": a line for each, where the first step of the list stands at
-- position i
unfoldable pub step_lines : List ℕ → ℕ → List ℕ → Reduction → List ℕ
step_lines w i [] m = []
step_lines w i (a ∷ l) [] = []
step_lines w i (a ∷ l) (true ∷ m) = row i (a ∷ cost_word w a ∷ []) ++ step_lines w (i + 1) l m
step_lines w i (a ∷ l) (false ∷ m) = step_lines w (i + 1) l m

-- "steps and price; marked steps; kept steps and price; then for each kept step": of the list l of the sheet w, from
-- which the reduction m is left
abbrev pub report : List ℕ → List ℕ → Reduction → List ℕ
report w l m =
    tally_line (ascii "lodged") (lodged_tally w l)
    ++ (line (ascii "marked") (marked w l ∷ [])
    ++ (tally_line (ascii "kept") (tally_left w l m)
    ++ step_lines w 1 l m))

-- what is printed where the checks answer t: the report, or the line of the refusal
abbrev pub reported : Option Told → List ℕ → List ℕ → Reduction → List ℕ
reported none w l m = report w l m
reported (some t) w l m = refusal_line t
