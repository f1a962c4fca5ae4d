-- What is printed for a sheet and a list that is licensed: the claim, and then the report of what is left. Assumes
-- nothing.
use Rattle.std.specs.Prelude.{ℕ, List, [], ◌∷◌, ◌++◌}
use Rattle.std.proofs.Math.Option.{none, some}
use Rattle.ascii.specs.Bytes.{ascii}
use Rattle.lines.specs.Lines.{line}
use Rattle.refusal.specs.Check.{answer}
use Rattle.plan.specs.Limits.{most_steps}
use Rattle.reduced.specs.Reduced.{reduction_checks}
use Rattle.claim.specs.declared.answer.Claim.{Claim}
use Rattle.claim.specs.declared.answer.Claim.TheVariants.{Least, Irreducible, Open}
use Rattle.claim.specs.Between.Computed.{claim_of, licensed_of}
use Rattle.program.specs.Printed.{refusal_line}
use Rattle.report.specs.Report.{report}

-- "least", "irreducible" or "open N"
abbrev pub claim_line : Claim → List ℕ
claim_line Least = line (ascii "least") []
claim_line Irreducible = line (ascii "irreducible") []
claim_line (Open n) = line (ascii "open") (n ∷ [])

-- what is printed for the list l of the sheet w: the first of the checks 1 to 11 that fires refuses it; the
-- list left has room for the longest
unfoldable pub licensed : List ℕ → List ℕ → List ℕ
licensed w l =
    elim (answer (reduction_checks w l most_steps)) [
      | none ↦ claim_line (claim_of w l) ++ report w l (licensed_of w l)
      | some t ↦ refusal_line t
    ]
