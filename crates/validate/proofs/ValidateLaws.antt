-- What the check of a list tells is what the program prints for it, and so of the whole input. Assumes nothing.
use Rattle.std.specs.Prelude.{Err, Ok}
use Prim.Native.Nat.{ℕ, ◌≤◌}
use mathlib.Core.Path.{◌≡◌, sym, ◌∙◌, ap}
use mathlib.Core.Option.{none, some}
use mathlib.Core.List.{List}
use lib.ListN.{length, take}
use Rattle.ascii.specs.Bytes.{ascii}
use Rattle.lines.specs.Puts.{Puts}
use Rattle.lines.specs.declared.Page.{Page}
use Rattle.refusal.specs.declared.Refusal.{Refusal}
use Rattle.refusal.specs.Refusal.{told_refusal}
use Rattle.refusal.specs.Check.{answer}
use Rattle.tally.specs.declared.Tally.{Tally}
use Rattle.plan.specs.Checked.{Answer}
use Rattle.plan.specs.Checked.{plan_checks, told_answer, lodged_tally, Checks}
use Rattle.program.specs.declared.input.Input.{Input}
use Rattle.program.specs.Printed.{tally_line, refusal_line, HasRead, ReadFrom}
use Rattle.program.proofs.ReplyTheorem.{reply_to_all}
use Rattle.program.specs.Between.Room.{line_room, TextPut}
use Rattle.validate.specs.Validate.{checked, printed}

module _ (w l : List ℕ) (given : Answer) (state : List ℕ) (checks : Checks (plan_checks w l) w l given state) {page page' : Page} where
  pub checked_tally : (t : Tally) → given ≡ Ok t → Puts (tally_line (ascii "lodged") t) page page' → length (tally_line (ascii "lodged") t) ≤ line_room
      → TextPut line_room page page' (checked w l)
  unfolding checked
  checked_tally t is puts short =
      let passes : answer (plan_checks w l) ≡ none = sym checks.refusal ∙ ap told_answer is in
      let counted : t ≡ lodged_tally w l = rw (is, passes) at checks.tally in
      rw (checked, passes) (rw counted at puts, rw counted at short)

  pub checked_refusal : (r : Refusal) → given ≡ Err r → Puts (refusal_line (told_refusal r)) page page' → length (refusal_line (told_refusal r)) ≤ line_room
      → TextPut line_room page page' (checked w l)
  unfolding checked
  checked_refusal r is puts short =
      let fires : answer (plan_checks w l) ≡ some (told_refusal r) = sym checks.refusal ∙ ap told_answer is in
      rw (checked, fires) (puts, short)

-- what is printed for the bytes read is what is printed for the whole input
pub printed_for_all : (whole bytes : List ℕ) (input : Input) → HasRead 0 1 bytes input → ReadFrom whole bytes input
    → printed (take input.count bytes) ≡ printed whole
printed_for_all whole bytes input has reads = reply_to_all 0 refusal_line _ whole bytes input has reads
