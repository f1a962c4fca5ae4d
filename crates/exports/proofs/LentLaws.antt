-- What a service that strikes nothing has stored into lent words. Assumes nothing.
use Rattle.std.specs.Prelude.{Result, Err, Ok}
use Prim.Native.Nat.{ℕ, ◌≤◌}
use native.Mathlib.Nat.{zero-add}
use native.Mathlib.Omega.{arith}
use mathlib.Core.Path.{◌≡◌, sym, ◌∙◌, ap, subst}
use mathlib.Core.Option.{none}
use mathlib.Core.List.{List, [], ◌∷◌, ◌++◌}
use lib.ListN.{length, take, drop, take-append-drop}
use lib.Seq.{sets, sets-eq}
use Rattle.refusal.specs.declared.Refusal.{Refusal}
use Rattle.refusal.specs.Refusal.{Verdict}
use Rattle.refusal.specs.Refusal.{told, verdict_in, count_in}
use Rattle.plan.specs.Checked.{Answer}
use Rattle.plan.specs.Checked.{plan_checks, told_answer, told_tally, Checks}
use Rattle.sheet.specs.Limits.{limits}
use Rattle.step.specs.Step.{Steps}
use Rattle.step.proofs.StepTheorem.{step_theorem}
use Rattle.course.specs.Course.{Courses}
use Rattle.moves.specs.Moves.{Moves}
use Rattle.landmark.specs.Marks.{Masks}
use Rattle.translation.specs.Translation.{told_translated, ToldOfBytes}
use Rattle.translation.specs.Between.Checks.{text_sheet, AnswersChecks}
use Rattle.translation.proofs.TranslationTheorem.{told_of_bytes}
use Rattle.lent.specs.Words.{answer_words, tally_words, lent_state}
use Rattle.lent.proofs.StoredLaws.{same_stored}
use Rattle.exports.specs.Services.{StepsLent, ChecksLent, CoursesLent, MovesLent, MarksLent, TranslatesLent}

-- one step, written to lent words
pub lent_steps : (w : List ℕ) (a : ℕ) (state state' out out' read values : List ℕ) (verdict : Verdict) → read ≡ lent_state state → Steps w read a verdict values
    → state' ≡ sets state 0 values → out' ≡ sets out 0 (answer_words (told verdict)) → StepsLent w a state state' out out'
unfolding lent_state
lent_steps w a state state' out out' read values verdict reads done stored answered =
    let steps : Steps w (lent_state state) a verdict values = rw reads at done in
    record {
      values = stored ∙ rw steps.state;
      answered = answered ∙ rw steps.verdict_told;
      refused = λ t fires.
          stored
          ∙ ap (sets state 0) ((step_theorem w (lent_state state) a verdict values steps).refused t (steps.verdict_told ∙ fires))
          ∙ same_stored state 0 limits.variables;
    }

-- the check of a list, written to lent words
pub lent_checks : (w l state state' out out' values : List ℕ) (given : Answer) → Checks (plan_checks w l) w l given values → state' ≡ sets state 0 values
    → out' ≡ sets out 0 (answer_words (told_answer given) ++ tally_words (told_tally given)) → ChecksLent w l state state' out out'
lent_checks w l state state' out out' values given checks stored answered =
    record { end = stored ∙ rw checks.end; answered = answered ∙ rw (checks.refusal, checks.tally) }

-- the states along a list, written to lent words
pub lent_course : (w l states states' out out' : List ℕ) (verdict : Verdict) (count : ℕ) → Courses w l verdict count states states'
    → out' ≡ sets out 0 (answer_words (told verdict) ++ (count ∷ [])) → CoursesLent w l states states' out out'
lent_course w l states states' out out' verdict count courses answered =
    record { states_left = courses.states; answered = answered ∙ rw (courses.refusal, courses.counted) }

-- the moves of a list, written to lent words
pub lent_moves : (w l kept marked rows rows' out out' : List ℕ) (given : Answer) → Moves w l kept marked given rows rows'
    → out' ≡ sets out 0 (answer_words (told_answer given) ++ tally_words (told_tally given)) → MovesLent w l kept marked rows rows' out out'
lent_moves w l kept marked rows rows' out out' given moves answered =
    record { rows_left = moves.rows; answered = answered ∙ rw (moves.refusal, moves.tally) }

-- the marks of a list, written to lent words
pub lent_marks : (w l mask mask' out out' words : List ℕ) (verdict : Verdict) → Masks w l verdict words → mask' ≡ sets mask 0 words
    → out' ≡ sets out 0 (answer_words (told verdict)) → MarksLent w l mask mask' out out'
lent_marks w l mask mask' out out' words verdict masks stored answered =
    record { told_by = stored ∙ rw masks.told_by; answered = answered ∙ rw masks.refusal }

-- a sheet at the front of lent words is stored over them
stored_front : (s before after : List ℕ) → length s ≤ length before → take (length s) after ≡ s → drop (length s) after ≡ drop (length s) before
    → after ≡ sets before 0 s
stored_front s before after room front rest =
    sym (take-append-drop (length s) after) ∙ ap (λ l. l ++ drop (length s) after) front ∙ ap (λ l. s ++ l) rest
    ∙ sym (sets-eq s before 0 (omega arith) ∙ ap (λ k. s ++ drop k before) (zero-add (length s)))

-- what reading a planner's text has stored, by its answer
told_as : {text output output' : List ℕ} {given : Result ℕ Refusal} → AnswersChecks text output given output'
    → ToldOfBytes text (length output) (told_translated given) (text_sheet text)
told_as {text} {output} checks = subst (λ t. ToldOfBytes text (length output) t (text_sheet text)) (sym checks.answers) (told_of_bytes text (length output))

module _ {text output output' out out' : List ℕ} where
  text_refused : {x : Refusal} → AnswersChecks text output (Err x) output' → out' ≡ sets out 0 (answer_words (told (Err x)) ++ (0 ∷ []))
      → TranslatesLent text output output' out out'
  text_refused {x} refuses written =
      record {
        refusal = told_translated (Err x);
        sheet = text_sheet text;
        told = told_as refuses;
        sheet_left = refuses.leaves;
        answered = written;
      }

  text_written : {n : ℕ} → AnswersChecks text output (Ok n) output' → out' ≡ sets out 0 (answer_words (told (Ok tt)) ++ (n ∷ []))
      → TranslatesLent text output output' out out'
  text_written {n} writes written =
      let counted : n ≡ length (text_sheet text) = writes.leaves.counted in
      let left : output' ≡ sets output 0 (text_sheet text) =
      stored_front (text_sheet text) output output' (rw counted at writes.leaves.room) (rw counted at writes.leaves.sheet) (rw counted at writes.leaves.rest) in
      record {
        refusal = none;
        sheet = text_sheet text;
        told = told_as writes;
        sheet_left = left;
        answered = rw counted at written;
      }

  pub text_lent : (given : Result ℕ Refusal) → AnswersChecks text output given output'
      → out' ≡ sets out 0 (answer_words (told (verdict_in given)) ++ (count_in given ∷ [])) → TranslatesLent text output output' out out'
  text_lent (Ok n) writes written = text_written writes written
  text_lent (Err x) refuses written = text_refused refuses written
