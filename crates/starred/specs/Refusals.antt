-- Each cause of refusal of document 01, met by words: sheet P with one word changed, or a list of P; and what document
-- 02 (C-12) says of the worked list 10. Assumes nothing.
use Rattle.std.specs.Prelude.{ℕ, ◌+◌, ◌≡◌, List, [], ◌∷◌, ◌++◌, set, replicate}
use Rattle.std.proofs.Math.Option.{none, some}
use Rattle.refusal.specs.Refusal.{Told}
use Rattle.refusal.specs.Check.{Check, answer}
use Rattle.sheet.specs.Causes.{sheet_checks}
use Rattle.plan.specs.Checked.{plan_checks}
use Rattle.reduced.specs.Reduced.{reduction_checks}
use Rattle.landmark.specs.Marks.{unmarked}
use Rattle.minimal.specs.Minimised.{most_unmarked, minimal_checks}
use Rattle.starred.specs.Sheets.{sheet_p}

-- a service's checks of some input, and the refusal
pub record Cause : Type 0 where
  pub checks : List Check
  pub refusal : Told

-- it is what the first check that fires gives
abbrev pub CauseMet : Cause → Type 0
CauseMet c = answer c.checks ≡ some c.refusal

-- sheet P with another word at this index
abbrev pub changed : ℕ → ℕ → List ℕ
changed i x = set sheet_p i x

-- a cause of the sheet check, met by P with one word changed
abbrev pub by_word : ℕ → ℕ → ℕ → ℕ → Cause
by_word i x number place =
    record { checks = sheet_checks (changed i x); refusal = record { number = number; place = place } }

-- a cause of the list check, met by a list of P
abbrev pub by_list : List ℕ → ℕ → ℕ → Cause
by_list l number place = record { checks = plan_checks sheet_p l; refusal = record { number = number; place = place } }

-- so many lamps then 0 1 2: the worked list 10
abbrev pub lamps_first : ℕ → List ℕ
lamps_first n = replicate n 3 ++ (0 ∷ 1 ∷ 2 ∷ [])

-- the causes 1 to 12, in order: of a word changed its index and the new word, then number and place
abbrev pub causes : List Cause
causes =
    -- N is not the length
    by_word 3 40 1 0
    -- edition 2
    ∷ by_word 0 2 2 0
    -- no variable
    ∷ by_word 1 0 3 0
    -- pair 5 has another offset than due
    ∷ by_word 14 35 4 5
    -- variable 1 starts at value 2 of 2
    ∷ by_word 22 2 5 1
    -- the effect of action 1 has an unknown value
    ∷ by_word 33 258 6 33
    -- action 2 has a price above 1,000,000
    ∷ by_word 34 1000001 7 2
    -- 256 lamps
    ∷ by_list (replicate 256 3) 8 255
    -- the third step is action 4
    ∷ by_list (0 ∷ 1 ∷ 4 ∷ 2 ∷ []) 9 3
    -- an output of two words for three steps
    ∷ record { checks = reduction_checks sheet_p (0 ∷ 1 ∷ 2 ∷ []) 2; refusal = record { number = 10; place = 3 } }
    -- the third step can't be done
    ∷ by_list (0 ∷ 1 ∷ 0 ∷ 2 ∷ []) 11 3
    -- 21 steps are unmarked
    ∷ record {
      checks = minimal_checks most_unmarked sheet_p (lamps_first 21) 24;
      refusal = record { number = 12; place = 21 };
    }
    ∷ []

-- the worked list 10, by document 02: "has 19 and then 20 unmarked, both answered"
abbrev pub LampsAnswered : ℕ → Type 0
LampsAnswered n =
    (unmarked sheet_p (lamps_first n) ≡ n)
    × (answer (minimal_checks most_unmarked sheet_p (lamps_first n) (n + 3)) ≡ none)

abbrev pub ListTen : Type 0
ListTen = LampsAnswered 19 × LampsAnswered 20
