-- What the service of the minimal reduction tells of a list is what the program prints for it: the report of the reduction, or the line of the refusal. Assumes nothing.
use Rattle.std.specs.Prelude.{Err, Ok}
use Prim.Native.Nat.{ℕ, ◌+◌, ◌≤◌}
use native.Mathlib.Omega.{arith}
use mathlib.Core.Path.{◌≡◌, refl, sym, ◌∙◌, ap}
use mathlib.Core.Bool.{Bool, true}
use mathlib.Core.Option.{Option, none, some, get_or}
use mathlib.Core.List.{List}
use lib.ListN.{length, length-replicate, length-map}
use Rattle.lines.specs.Puts.{Puts}
use Rattle.lines.specs.declared.Page.{Page}
use Rattle.refusal.specs.declared.Refusal.{Refusal}
use Rattle.refusal.specs.Refusal.{told_refusal}
use Rattle.refusal.specs.Check.{answer}
use Rattle.refusal.proofs.CheckLaws.{first_none}
use Rattle.sas.specs.Task.{State, Action}
use Rattle.tally.specs.declared.Tally.{Tally}
use Rattle.reduction.specs.Reduction.{Reduction, whole, meets}
use Rattle.reduction.specs.Between.Found.{found, minimal}
use Rattle.reduction.proofs.minimal.MinimalTheorem.{found_minimal}
use Rattle.sheet.specs.Decode.{initial, goal, action}
use Rattle.plan.specs.Limits.{most_steps}
use Rattle.plan.specs.Valid.{steps}
use Rattle.plan.specs.Readable.{Readable}
use Rattle.plan.specs.Checked.{told_answer}
use Rattle.plan.proofs.PlanLaws.{passed_readable}
use Rattle.reduced.specs.Reduced.{room_checks, reduction_checks}
use Rattle.minimal.specs.Minimised.{Shortening}
use Rattle.minimal.specs.Minimised.{most_unmarked, unmarked_checks, minimal_checks, Minimises}
use Rattle.minimal.specs.Between.Computed.{minimal_of, MinimisesOf}
use Rattle.minimal.proofs.ComputedTheorem.{minimises_of}
use Rattle.program.specs.Printed.{refusal_line}
use Rattle.program.specs.Between.Room.{line_room, TextPut}
use Rattle.report.specs.Report.{report}
use Rattle.report.specs.Between.Reported.{report_room, Reports, PutsLines}
use Rattle.report.proofs.ToldLaws.{nothing_fires, told_reported}
use Rattle.report.specs.Shortened.{shortened}

-- the minimal reduction has a flag for each step
minimal_length : (ends : State → Bool) (s : State) (p : List Action) → length (minimal ends s p) ≡ length p
unfolding minimal
minimal_length ends s p = by_case (found ends s p) refl
  where
    by_case : (o : Option Reduction) → found ends s p ≡ o → length (get_or (found ends s p) (whole p)) ≡ length p
    by_case none e = rw e (length-replicate (length p) true)
    by_case (some m) e = rw e (found_minimal ends s p e).valid.fits

module _ (w l before : List ℕ) (r : Shortening) (after : List ℕ) (room : length before ≡ most_steps) (answered : Minimises most_unmarked w l before r after) where
  minimises : MinimisesOf most_unmarked w l before r after
  minimises = minimises_of most_unmarked w l before r after answered

  -- the list is shortened
  module _ (kept : Tally) (is : r.answer ≡ Ok kept) where
    passes : answer (minimal_checks most_unmarked w l (length before)) ≡ none
    passes = nothing_fires _ w l _ before r after minimises.answers kept is

    readable : Readable w l
    unfolding minimal_checks
    readable = passed_readable _ (room_checks (length l) (length before)) w l (first_none (reduction_checks w l (length before)) (unmarked_checks most_unmarked w l) _ passes refl)

    pub reports_minimal : Reports w l (minimal_of w l) r kept
    reports_minimal =
        let fits : length (minimal_of w l) ≡ length l = minimal_length (meets (goal w)) (initial w) (steps w l) ∙ length-map l (action w) in
        told_reported _ w l _ before r after minimises.answers kept is minimises.lodged minimises.marks fits readable.few

    pub shortened_report : {page page' : Page} → PutsLines (3 + length l) (report w l (minimal_of w l)) page page' → TextPut report_room page page' (shortened w l)
    unfolding shortened
    shortened_report puts =
        let fits : length (report w l (minimal_of w l)) ≤ report_room = omega (arith, puts.short, readable.few) in
        rw (shortened, ← room, passes) (puts.puts, fits)

  -- or refused
  pub shortened_refusal : (refusal : Refusal) → r.answer ≡ Err refusal → {page page' : Page}
      → Puts (refusal_line (told_refusal refusal)) page page' → length (refusal_line (told_refusal refusal)) ≤ line_room
      → TextPut report_room page page' (shortened w l)
  unfolding shortened
  shortened_refusal refusal is puts short =
      let fires : answer (minimal_checks most_unmarked w l (length before)) ≡ some (told_refusal refusal) = sym minimises.answers.refusal ∙ ap told_answer is in
      let fits : length (refusal_line (told_refusal refusal)) ≤ report_room = omega (arith, short) in
      rw (shortened, ← room, fires) (puts, fits)
