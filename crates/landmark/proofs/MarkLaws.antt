-- What the function for landmarks and the services answer on each of their ways. What the code calls is a variable here, with what is known of it as a premise.
-- Assumes nothing.
use Rattle.std.specs.Prelude.{Err, Ok}
use Prim.Native.Nat.{ℕ, ◌<◌}
use native.Mathlib.Omega.{arith}
use mathlib.Core.Path.{◌≡◌, refl, sym, ◌∙◌, ap}
use mathlib.Core.Bool.{false}
use mathlib.Core.Option.{none, some}
use mathlib.Core.List.{List}
use lib.ListN.{length, replicate}
use Rattle.refusal.specs.declared.Refusal.{Refusal}
use Rattle.refusal.specs.Refusal.{Verdict}
use Rattle.refusal.specs.Refusal.{told_refusal}
use Rattle.refusal.specs.Check.{answer}
use Rattle.refusal.proofs.CheckLaws.{answer_nothing}
use Rattle.reduction.specs.Reduction.{Reduction}
use Rattle.reduction.proofs.marks.LandmarkTheorem.{landmarks_length}
use Rattle.tally.specs.declared.Tally.{Tally}
use Rattle.mask.specs.Mask.{mask_length, mask_words}
use Rattle.sheet.specs.Decode.{initial, goal}
use Rattle.plan.specs.Checked.{Answer}
use Rattle.plan.specs.Limits.{most_steps}
use Rattle.plan.specs.Valid.{steps}
use Rattle.plan.specs.Readable.{Readable}
use Rattle.plan.specs.Checked.{lodged_checks, plan_checks, told_answer, Checks}
use Rattle.plan.specs.Between.Lodged.{ChecksLodged}
use Rattle.plan.proofs.PlanLaws.{passed_readable}
use Rattle.reduced.specs.Between.Held.{mask, flags_of, Leaves}
use Rattle.reduced.proofs.HeldLaws.{leaves}
use Rattle.landmark.specs.Marks.{marks, Masks}
use Rattle.landmark.specs.Between.Flagged.{Marks, MarksLodged}

-- a list over the limit can't be read
pub too_long : (w l : List ℕ) (flags : Reduction) → most_steps < length l → Readable w l → flags ≡ flags_of l (marks w l)
too_long w l flags long readable = absurd (omega (arith, readable.few))

-- the flags of a list that can be read hold its marks
pub marks_leave : (w l : List ℕ) (flags : Reduction) → flags ≡ flags_of l (marks w l) → Leaves l (marks w l) flags
unfolding marks
marks_leave w l flags is = leaves w l (marks w l) (marks w l) flags (landmarks_length (initial w) (goal w) (steps w l)) refl is

module _ (w l : List ℕ) (v : Verdict) (given : Answer) (state : List ℕ) (checks : ChecksLodged most_steps w l v given state) where
  -- a list is refused, with no flag
  pub lodged_refused : (r : Refusal) → given ≡ Err r → MarksLodged w l v (Err r) (replicate most_steps false)
  lodged_refused r is =
      record {
        checked = λ besides asked.
            let all : Checks (lodged_checks most_steps besides w l) w l given state = checks.checked besides asked in
            let refuses : answer (lodged_checks most_steps besides w l) ≡ some (told_refusal r) = sym all.refusal ∙ ap told_answer is in
            record { refusal = sym refuses; tally = rw is at all.tally; flagged = rw refuses };
      }

  -- and one that passes is marked
  pub lodged_marked : (t : Tally) (flags : Reduction) → given ≡ Ok t → (Readable w l → flags ≡ flags_of l (marks w l)) → MarksLodged w l v (Ok t) flags
  lodged_marked t flags is flagged =
      record {
        checked = λ besides asked.
            let all : Checks (lodged_checks most_steps besides w l) w l given state = checks.checked besides asked in
            let passes : answer (lodged_checks most_steps besides w l) ≡ none = sym all.refusal ∙ ap told_answer is in
            record { refusal = sym passes; tally = rw is at all.tally; flagged = rw passes (flagged (passed_readable _ besides w l passes)) };
      }

-- the service, where nothing is asked besides
module _ (w l : List ℕ) (given : Answer) (flags : Reduction) (lodged : MarksLodged w l (Ok tt) given flags) where
  all : Marks (plan_checks w l) w l given flags
  all = lodged.checked _ (sym answer_nothing)

  pub masks_refused : (r : Refusal) → given ≡ Err r → Masks w l (Err r) (replicate mask_length 0)
  masks_refused r is =
      let refuses : answer (plan_checks w l) ≡ some (told_refusal r) = sym all.refusal ∙ ap told_answer is in
      record { refusal = sym refuses; told_by = rw refuses }

  module _ (t : Tally) (is : given ≡ Ok t) where
    passes : answer (plan_checks w l) ≡ none
    passes = sym all.refusal ∙ ap told_answer is

    pub flags_leave : Leaves l (marks w l) flags
    flags_leave = marks_leave w l flags (rw passes at all.flagged)

    pub masks_passed : (words : List ℕ) → words ≡ mask_words (mask l flags) → Masks w l (Ok tt) words
    masks_passed words told_by = record { refusal = sym passes; told_by = rw passes (told_by ∙ ap mask_words flags_leave.same) }
