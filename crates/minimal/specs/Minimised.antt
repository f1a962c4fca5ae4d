-- What the minimal reduction (document 01: exact reduction) answers as a service. Assumes nothing.
use Rattle.std.specs.Prelude.{ℕ, ◌≡◌, List, [], ◌∷◌, ◌++◌, length, replicate, ltb, Result, Ok, Err}
use Rattle.std.proofs.Math.Option.{Option}
use Rattle.refusal.specs.Place.{when}
use Rattle.refusal.specs.declared.Refusal.{Refusal}
use Rattle.refusal.specs.Refusal.{Told}
use Rattle.refusal.specs.Check.{Check, answer, unless_refused}
use Rattle.reduction.specs.Minimal.{MinimalReduction}
use Rattle.tally.specs.declared.Tally.{Tally}
use Rattle.tally.specs.Tally.{nothing}
use Rattle.mask.specs.declared.Mask.{Mask}
use Rattle.mask.specs.Mask.{mask_length}
use Rattle.sheet.specs.Decode.{goal, initial}
use Rattle.plan.specs.Valid.{steps}
use Rattle.plan.specs.Checked.{Answer, lodged_tally}
use Rattle.reduced.specs.Reduced.{reduction_checks, Answers, TellsLeft}
use Rattle.landmark.specs.Marks.{marked, unmarked}
use Rattle.minimal.specs.declared.within.Shortened.{Shortened}

-- what the minimal reduction tells of a list: the tally of what is left or a refusal, the mask, and the tally of the
-- lodged list and the number of its marked steps
pub record Shortening : Type 0 where
  pub answer : Answer
  pub mask : Mask
  pub lodged : Tally
  pub marked : ℕ

-- that of an answer: all zero in a refusal
abbrev pub shortening : Result Shortened Refusal → Shortening
shortening (Ok s) = record { answer = Ok s.left.tally; mask = s.left.mask; lodged = s.lodged; marked = s.marked }
shortening (Err r) = record { answer = Err r; mask = record { words = replicate mask_length 0 }; lodged = nothing; marked = 0 }

-- the most steps that may be unmarked, stated here and nowhere else in the definitions
abbrev pub most_unmarked : ℕ
most_unmarked = 20

-- 12: more steps than the limit are unmarked; its place is how many
unfoldable pub unmarked_checks : ℕ → List ℕ → List ℕ → List Check
unmarked_checks limit w l = record { number = 12; fires = when (ltb limit (unmarked w l)) (unmarked w l) } ∷ []

-- the checks of the minimal reduction, in the order in which they run: those of every reduction, then 12
unfoldable pub minimal_checks : ℕ → List ℕ → List ℕ → ℕ → List Check
minimal_checks limit w l room = reduction_checks w l room ++ unmarked_checks limit w l

module _ (limit : ℕ) (w l before : List ℕ) where
  -- the refusal of its first check that fires, with room for the list in a lent output
  abbrev pub minimal_refusal : Option Told
  minimal_refusal = answer (minimal_checks limit w l (length before))

  -- the service: it answers with the minimal reduction of the list l over a lent output, of which there is just one
  -- (`minimal_once`), and tells the tally of the lodged list and the number of its marked steps besides, zero on a
  -- refusal
  pub record Minimises (r : Shortening) (after : List ℕ) : Type 0 where
    pub answers : TellsLeft (MinimalReduction (initial w) (goal w) (steps w l))
        (λ m. Answers minimal_refusal w l m before r.answer r.mask.words after) minimal_refusal
    pub lodged : r.lodged ≡ unless_refused minimal_refusal (lodged_tally w l) nothing
    pub marks : r.marked ≡ unless_refused minimal_refusal (marked w l) 0
