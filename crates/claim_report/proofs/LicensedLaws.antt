-- What the service tells of a list is what the program prints for it: the claim and the report of the reduction, or the line of the refusal. Assumes nothing.
use Rattle.std.specs.Prelude.{Err, Ok}
use Prim.Native.Nat.{ℕ, ◌+◌, ◌≤◌}
use native.Mathlib.Omega.{arith}
use mathlib.Core.Path.{◌≡◌, sym, ◌∙◌, ap, subst}
use mathlib.Core.Option.{none, some}
use mathlib.Core.List.{List, ◌++◌}
use lib.ListN.{length, length-map, length-append}
use Rattle.lines.specs.Puts.{Puts}
use Rattle.lines.specs.declared.Page.{Page}
use Rattle.lines.proofs.PutsLaws.{puts_both}
use Rattle.refusal.specs.declared.Refusal.{Refusal}
use Rattle.refusal.specs.Refusal.{told_refusal}
use Rattle.refusal.specs.Check.{answer}
use Rattle.tally.specs.declared.Tally.{Tally}
use Rattle.sheet.specs.Decode.{action}
use Rattle.plan.specs.Limits.{most_steps}
use Rattle.plan.specs.Readable.{Readable}
use Rattle.plan.specs.Checked.{told_answer}
use Rattle.plan.proofs.PlanLaws.{passed_readable}
use Rattle.reduced.specs.Reduced.{room_checks, reduction_checks}
use Rattle.reduced.proofs.LodgedLaws.{lodged_plan}
use Rattle.claim.specs.declared.answer.Claim.{Claim}
use Rattle.claim.specs.Licensing.{Licensing}
use Rattle.claim.specs.Licensed.{Licenses}
use Rattle.claim.specs.Between.Computed.{claim_of, licensed_of, LicensesOf}
use Rattle.claim.proofs.ComputedTheorem.{licenses_of}
use Rattle.claim.specs.Statement.{Licence}
use Rattle.claim.proofs.LicenceTheorem.{licence_of}
use Rattle.program.specs.Printed.{refusal_line}
use Rattle.program.specs.Between.Room.{line_room, TextPut}
use Rattle.report.specs.Report.{report}
use Rattle.report.specs.Between.Reported.{Reports, PutsLines}
use Rattle.report.proofs.ToldLaws.{nothing_fires, told_reported}
use Rattle.claim_report.specs.Licensed.{claim_line, licensed}
use Rattle.claim_report.specs.Between.LicenceRoom.{licence_room}

-- the line of a claim is that of its case
pub claim_put : {claim case : Claim} {before after : Page} → claim ≡ case → Puts (claim_line case) before after
    → length (claim_line case) ≤ line_room → PutsLines 1 (claim_line claim) before after
claim_put is puts short = rw is (record { puts = puts; short = omega (arith, short) })

module _ (w l before : List ℕ) (r : Licensing) (after : List ℕ) (room : length before ≡ most_steps) (answered : Licenses w l before r after) where
  licenses : LicensesOf w l before r after
  licenses = licenses_of w l before r after answered

  -- the list is licensed
  module _ (kept : Tally) (is : r.told.answer ≡ Ok kept) where
    passes : answer (reduction_checks w l (length before)) ≡ none
    passes = nothing_fires _ w l _ before r.told after licenses.answers kept is

    readable : Readable w l
    readable = passed_readable _ (room_checks (length l) (length before)) w l passes

    pub reports_licensed : Reports w l (licensed_of w l) r.told kept
    reports_licensed =
        let licence : Licence w l (claim_of w l) (licensed_of w l) = licence_of w l readable (lodged_plan (room_checks (length l) (length before)) w l passes) in
        let fits : length (licensed_of w l) ≡ length l = licence.valid_left.fits ∙ length-map l (action w) in
        told_reported _ w l _ before r.told after licenses.answers kept is licenses.lodged licenses.marks fits readable.few

    pub licensed_report : {page between page' : Page} → PutsLines 1 (claim_line r.claim) page between
        → PutsLines (3 + length l) (report w l (licensed_of w l)) between page' → TextPut licence_room page page' (licensed w l)
    unfolding licensed
    licensed_report {page} {between} first rest =
        let claimed : r.claim ≡ claim_of w l = rw passes at licenses.claims in
        let claims : PutsLines 1 (claim_line (claim_of w l)) page between = rw claimed at first in
        let long = length-append (claim_line (claim_of w l)) (report w l (licensed_of w l)) in
        let fits : length (claim_line (claim_of w l) ++ report w l (licensed_of w l)) ≤ licence_room = omega (arith, long, claims.short, rest.short, readable.few) in
        let here : answer (reduction_checks w l most_steps) ≡ none = subst (λ n. answer (reduction_checks w l n) ≡ none) room passes in
        rw (licensed, here) (puts_both claims.puts rest.puts, fits)

  -- or refused
  pub licensed_refusal : (refusal : Refusal) → r.told.answer ≡ Err refusal → {page page' : Page}
      → Puts (refusal_line (told_refusal refusal)) page page' → length (refusal_line (told_refusal refusal)) ≤ line_room
      → TextPut licence_room page page' (licensed w l)
  unfolding licensed
  licensed_refusal refusal is puts short =
      let fires : answer (reduction_checks w l (length before)) ≡ some (told_refusal refusal) = sym licenses.answers.refusal ∙ ap told_answer is in
      let fits : length (refusal_line (told_refusal refusal)) ≤ licence_room = omega (arith, short) in
      let here : answer (reduction_checks w l most_steps) ≡ some (told_refusal refusal) = subst (λ n. answer (reduction_checks w l n) ≡ some (told_refusal refusal)) room fires in
      rw (licensed, here) (puts, fits)
