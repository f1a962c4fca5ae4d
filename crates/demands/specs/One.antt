-- Demand 1 as one statement. docs/DEMANDS.md has the demand in full, with numbered clauses, and the comments here name
-- those that a field says. A field for each service says them of whatever the service's contract allows, for lent words
-- at any length and with anything in them (1.1). Assumes nothing.
use Rattle.std.specs.Prelude.{ℕ, min, ◌≤◌, ◌<◌, ◌≡◌, ◌⊎◌, ◌↔◌, Result, length, take, drop, None, Some}
use Rattle.std.proofs.Math.Option.{Option, none, some}
use mathlib.Core.List.{List, [], ◌∷◌, ◌++◌, map, Memᴰ}
use Rattle.refusal.specs.declared.Refusal.{Refusal}
use Rattle.refusal.specs.Refusal.{Verdict}
use Rattle.refusal.specs.Refusal.{Told, told}
use Rattle.refusal.specs.Check.{Check, answer}
use Rattle.reduction.specs.Reduction.{Reduction, kept, count}
use Rattle.tally.specs.declared.Tally.{Tally}
use Rattle.sheet.specs.Causes.{sheet_checks}
use Rattle.step.specs.Step.{step_checks, Steps, After}
use Rattle.plan.specs.Checked.{Answer}
use Rattle.plan.specs.Checked.{plan_checks, told_answer, Checks}
use Rattle.course.specs.Course.{course_checks, Courses}
use Rattle.reduced.specs.Reduced.{reduction_checks}
use Rattle.landmark.specs.Marks.{Masks}
use Rattle.elimination.specs.declared.single.Elimination.{Elimination}
use Rattle.elimination.specs.Eliminations.{Eliminates}
use Rattle.cheaper.specs.Cheaper.{ReducesCheaper, ReducesBoth, cheaper_part}
use Rattle.moves.specs.Moves.{moves_checks, Moves}
use Rattle.minimal.specs.Minimised.{Shortening}
use Rattle.minimal.specs.Minimised.{most_unmarked, minimal_checks, Minimises}
use Rattle.claim.specs.Licensing.{Licensing}
use Rattle.claim.specs.Licensed.{Licenses}
use Rattle.planner.specs.Text.{Text, most_bytes}
use Rattle.planner.specs.Meant.{unsayable}
use Rattle.planner.specs.Broken.{Prints, Breaks}
use Rattle.translation.specs.Translation.{SheetOf, told_translated, Translates}

-- none of these checks fires
abbrev pub NoneFires : List Check → Type 0
NoneFires checks = (c : Check) → Memᴰ c checks → c.fires ≡ None

-- of these checks the one with the refusal's number fires, at the refusal's place, and none before it fires
pub record FirstToFire (checks : List Check) (t : Told) : Type 0 where
  pub earlier : List Check
  pub here : Check
  pub later : List Check
  pub parts : checks ≡ earlier ++ (here ∷ later)
  pub number : here.number ≡ t.number
  pub fires : here.fires ≡ Some t.place
  pub before_it : NoneFires earlier

-- each refusal comes under its condition and no other (1.5), of a service whose conditions are these checks
pub record RefusesJust (numbers : List ℕ) (checks : List Check) (refusal : Option Told) : Type 0 where
  -- 1.5: the checks have these numbers, in this order
  pub numbered : map (λ c. c.number) checks ≡ numbers
  -- 1.5: it refuses with t just where t is the number and the place of the first check that fires
  pub refuses : (t : Told) → refusal ≡ some t ↔ FirstToFire checks t
  -- 1.5: and answers just where none does
  pub answers : refusal ≡ none ↔ NoneFires checks

-- document 01: "The sheet check has 1 to 7; one step 1 to 7, 9 and 11; list check and marks 1 to 9 and 11; the greedy
-- services 1 to 11; the exact reduction all." Document 02, C-15: "new is 16, after 7"
abbrev pub sheet_numbers : List ℕ
sheet_numbers = 1 ∷ 2 ∷ 3 ∷ 4 ∷ 5 ∷ 6 ∷ 7 ∷ 16 ∷ []

abbrev pub step_numbers : List ℕ
step_numbers = sheet_numbers ++ (9 ∷ 11 ∷ [])

-- the states along a list have the checks of what is read alone
abbrev pub read_numbers : List ℕ
read_numbers = sheet_numbers ++ (8 ∷ 9 ∷ [])

abbrev pub list_numbers : List ℕ
list_numbers = sheet_numbers ++ (8 ∷ 9 ∷ 11 ∷ [])

abbrev pub greedy_numbers : List ℕ
greedy_numbers = sheet_numbers ++ (8 ∷ 9 ∷ 10 ∷ 11 ∷ [])

abbrev pub exact_numbers : List ℕ
exact_numbers = greedy_numbers ++ (12 ∷ [])

-- the cause of a refusal of a planner's text (document 02, C-11), with room for so many words
pub data TextCause (bytes : List ℕ) (room : ℕ) : Told → Type 0 where
  too_long : most_bytes < length bytes → TextCause bytes room (record { number = 13; place = 0 })
  broken : {n : ℕ} → length bytes ≤ most_bytes → Breaks bytes n
      → TextCause bytes room (record { number = 13; place = n })
  unsaid : {t : Text} {n : ℕ} → length bytes ≤ most_bytes → Prints t bytes → unsayable t ≡ Some n
      → TextCause bytes room (record { number = 14; place = n })
  no_sheet : {t : Text} → length bytes ≤ most_bytes → Prints t bytes → unsayable t ≡ None
      → ((w : List ℕ) → SheetOf t w → ⊥) → TextCause bytes room (record { number = 15; place = 0 })
  no_room : {t : Text} {w : List ℕ} → length bytes ≤ most_bytes → Prints t bytes → unsayable t ≡ None
      → SheetOf t w → room < length w → TextCause bytes room (record { number = 10; place = length w })

-- a lent list output, over which a service writes what the reduction m leaves of the list l
pub record OutputLent (refusal : Option Told) (l : List ℕ) (m : Reduction) (before after : List ℕ) : Type 0 where
  -- 1.2 and 1.6: a refusal leaves all its words
  pub refused : (t : Told) → refusal ≡ some t → after ≡ before
  -- 1.3: an answer changes its first words alone, as many as there are kept steps
  pub first_words : refusal ≡ none → after ≡ kept m l ++ drop (count m) before
  -- 1.3: what is written there has a word for each kept step
  pub one_each : refusal ≡ none → length (kept m l) ≡ count m
  -- 1.3: the output has room for them
  pub room : refusal ≡ none → count m ≤ length before

-- What is lent to be read no service can change, since the language lends it so (1.1); lent to be written are the state
-- of one step, the states along a list, the outputs of the services that strike, and that of the sheet of a text.
pub record DemandOne : Type 0 where
  -- 1.5: the check of a sheet
  pub sheet_check : (w : List ℕ) (verdict : Verdict) → told verdict ≡ answer (sheet_checks w)
      → RefusesJust sheet_numbers (sheet_checks w) (told verdict)
  -- 1.4, 1.5 and 1.6: one step
  pub one_step : (w before : List ℕ) (a : ℕ) (verdict : Verdict) (after : List ℕ) → Steps w before a verdict after
      → RefusesJust step_numbers (step_checks w before a) (told verdict)
      × After w before a (told verdict) after
  -- 1.5: the check of a list
  pub list_check : (w l : List ℕ) (given : Answer) (state : List ℕ) → Checks (plan_checks w l) w l given state
      → RefusesJust list_numbers (plan_checks w l) (told_answer given)
  -- 1.5 and 1.6: the states along it; what an answer writes is `Courses`
  pub course : (w l : List ℕ) (verdict : Verdict) (count : ℕ) (before after : List ℕ)
      → Courses w l verdict count before after
      → RefusesJust read_numbers (course_checks w l) (told verdict)
      × ((t : Told) → told verdict ≡ some t → after ≡ before)
  -- 1.5: its marks
  pub marks : (w l : List ℕ) (verdict : Verdict) (mask : List ℕ) → Masks w l verdict mask
      → RefusesJust list_numbers (plan_checks w l) (told verdict)
  -- 1.2, 1.3, 1.5 and 1.6: elimination, or greedy elimination
  pub elimination : (by : Elimination) (w l before : List ℕ) (given : Answer) (mask after : List ℕ)
      (eliminates : Eliminates by w l before given mask after)
      → RefusesJust greedy_numbers (reduction_checks w l (length before)) (told_answer given)
      × OutputLent (told_answer given) l eliminates.left before after
  -- 1.2, 1.3, 1.5 and 1.6: both eliminations, whose room is that of the shorter output
  pub both_eliminations : (w l before before' : List ℕ) (verdict : Verdict) (first second : Tally)
      (after after' : List ℕ) (both : ReducesBoth w l before before' verdict first second after after')
      → RefusesJust greedy_numbers (reduction_checks w l (min (length before) (length before'))) (told verdict)
      × OutputLent (told verdict) l both.elimination.left before after
      × OutputLent (told verdict) l both.greedy.left before' after'
  -- 1.1: the cheaper of both, to which the two outputs are lent to be read: the part shown is the front of one of them
  pub cheaper_shown : (first second : List ℕ) (of_first of_second : Tally) (part : List ℕ)
      → part ≡ cheaper_part first second of_first of_second
      → (part ≡ take of_first.steps first) ⊎ (part ≡ take of_second.steps second)
  -- 1.2, 1.3, 1.5 and 1.6: what the cheaper leaves
  pub cheaper_left : (w l before : List ℕ) (given : Answer) (mask after : List ℕ)
      (reduces : ReducesCheaper w l before given mask after)
      → RefusesJust greedy_numbers (reduction_checks w l (length before)) (told_answer given)
      × OutputLent (told_answer given) l reduces.left before after
  -- 1.5 and 1.6: what each move costs, and what becomes of it
  pub moves : (w l mask marks : List ℕ) (given : Answer) (before after : List ℕ)
      → Moves w l mask marks given before after
      → RefusesJust read_numbers (moves_checks w l) (told_answer given)
      × ((t : Told) → told_answer given ≡ some t → after ≡ before)
  -- 1.2, 1.3, 1.5 and 1.6: the exact reduction
  pub exact_reduction : (w l before : List ℕ) (r : Shortening) (after : List ℕ)
      (minimises : Minimises most_unmarked w l before r after)
      → RefusesJust exact_numbers (minimal_checks most_unmarked w l (length before)) (told_answer r.answer)
      × OutputLent (told_answer r.answer) l minimises.answers.left before after
  -- 1.2, 1.3, 1.5 and 1.6: the licence, with the refusals of the eliminations
  pub licence : (w l before : List ℕ) (r : Licensing) (after : List ℕ) (licenses : Licenses w l before r after)
      → RefusesJust greedy_numbers (reduction_checks w l (length before)) (told_answer r.told.answer)
      × OutputLent (told_answer r.told.answer) l licenses.answers.left before after
  -- 1.5 and 1.6: a planner's text read into a sheet
  pub planner_text : (bytes before : List ℕ) (r : Result ℕ Refusal) (after : List ℕ) → Translates bytes before r after
      → ((t : Told) → told_translated r ≡ some t ↔ TextCause bytes (length before) t)
      × ((t : Told) → told_translated r ≡ some t → after ≡ before)
