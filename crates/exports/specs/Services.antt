-- What each service that strikes nothing writes over lent words. Assumes nothing.
use Rattle.std.specs.Prelude.{ℕ, ◌≡◌, length, replicate}
use Rattle.std.proofs.Math.Option.{Option, some}
use mathlib.Core.List.{List, [], ◌∷◌, ◌++◌, flatten}
use Rattle.std.proofs.lemmas.List.Edits.{sets}
use Rattle.refusal.specs.Refusal.{Told}
use Rattle.refusal.specs.Check.{answer, unless_refused}
use Rattle.tally.specs.Tally.{nothing}
use Rattle.mask.specs.Mask.{mask_length, mask_words}
use Rattle.plan.specs.Checked.{plan_checks, lodged_tally, end_state, no_state}
use Rattle.course.specs.Course.{course, course_checks}
use Rattle.moves.specs.Moves.{all_rows, saved, moves_checks}
use Rattle.landmark.specs.Marks.{marks}
use Rattle.step.specs.Step.{step_checks, state_after}
use Rattle.translation.specs.Translation.{ToldOfBytes}
use Rattle.lent.specs.Words.{answer_words, tally_words, lent_state}

-- one step over lent words: the state after it over `state`, of which 64 words are read and written, as far as there
-- are so many, and the answer over `out`
pub record StepsLent (w : List ℕ) (a : ℕ) (state state' out out' : List ℕ) : Type 0 where
  pub values : state' ≡ sets state 0 (state_after w (lent_state state) a)
  pub answered : out' ≡ sets out 0 (answer_words (answer (step_checks w (lent_state state) a)))
  -- a refused step leaves every lent word of the state
  pub refused : (t : Told) → answer (step_checks w (lent_state state) a) ≡ some t → state' ≡ state

-- the check of a list over lent words, of checks that answer t: the end state over `state`, the answer and the tally
-- over `out`
pub record CheckLent (t : Option Told) (w l state state' out out' : List ℕ) : Type 0 where
  pub end : state' ≡ sets state 0 (unless_refused t (end_state w l) no_state)
  pub answered : out' ≡ sets out 0 (answer_words t ++ tally_words (unless_refused t (lodged_tally w l) nothing))

abbrev pub ChecksLent : List ℕ → List ℕ → List ℕ → List ℕ → List ℕ → List ℕ → Type 0
ChecksLent w l = CheckLent (answer (plan_checks w l)) w l

-- the states along a list over lent words, of checks that answer t: they over `states`, one behind the other, the
-- answer and how many they are over `out`
pub record CourseLent (t : Option Told) (w l states states' out out' : List ℕ) : Type 0 where
  pub states_left : states' ≡ unless_refused t (sets states 0 (flatten (course w l))) states
  pub answered : out' ≡ sets out 0 (answer_words t ++ (unless_refused t (length (course w l)) 0 ∷ []))

abbrev pub CoursesLent : List ℕ → List ℕ → List ℕ → List ℕ → List ℕ → List ℕ → Type 0
CoursesLent w l = CourseLent (answer (course_checks w l)) w l

-- the moves of a list over lent words, by the masks of what is kept and what is marked: their rows over `rows`, one
-- behind the other, the answer and what is saved over `out`
pub record MoveLent (t : Option Told) (w l kept marked rows rows' out out' : List ℕ) : Type 0 where
  pub rows_left : rows' ≡ unless_refused t (sets rows 0 (all_rows w l kept marked)) rows
  pub answered : out' ≡ sets out 0 (answer_words t ++ tally_words (unless_refused t (saved w l kept) nothing))

abbrev pub MovesLent : List ℕ → List ℕ → List ℕ → List ℕ → List ℕ → List ℕ → List ℕ → List ℕ → Type 0
MovesLent w l = MoveLent (answer (moves_checks w l)) w l

-- the marks of a list over lent words: their mask over `mask`, the answer over `out`
pub record MarkLent (t : Option Told) (w l mask mask' out out' : List ℕ) : Type 0 where
  pub told_by : mask' ≡ sets mask 0 (unless_refused t (mask_words (marks w l)) (replicate mask_length 0))
  pub answered : out' ≡ sets out 0 (answer_words t)

abbrev pub MarksLent : List ℕ → List ℕ → List ℕ → List ℕ → List ℕ → List ℕ → Type 0
MarksLent w l = MarkLent (answer (plan_checks w l)) w l

-- a planner's text read into a sheet over lent words: the sheet over `output`, the answer and how many words it has
-- over `out`
pub record TranslatesLent (text output output' out out' : List ℕ) : Type 0 where
  pub refusal : Option Told
  pub sheet : List ℕ
  pub told : ToldOfBytes text (length output) refusal sheet
  pub sheet_left : output' ≡ unless_refused refusal (sets output 0 sheet) output
  pub answered : out' ≡ sets out 0 (answer_words refusal ++ (unless_refused refusal (length sheet) 0 ∷ []))
