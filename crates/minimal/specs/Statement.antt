-- Demand 3 as one statement, of whatever tells what the minimal reduction leaves, and of the service. Steps stand at
-- indices from 0, one less than document 01's positions. Assumes nothing.
use Rattle.std.specs.Prelude.{ℕ, ◌≤◌, ◌<◌, ◌≡◌, ◌↔◌, List, length}
use Rattle.std.proofs.Math.Option.{Option, none, some}
use Rattle.refusal.specs.Refusal.{Told}
use Rattle.sas.specs.Plan.{Plan}
use Rattle.reduction.specs.Reduction.{Reduction, keeps, kept, ValidReduction}
use Rattle.reduction.specs.Landmark.{Landmark}
use Rattle.reduction.specs.Minimal.{MinimalReduction}
use Rattle.sheet.specs.Decode.{goal, initial, task}
use Rattle.plan.specs.Checked.{Answer}
use Rattle.plan.specs.Valid.{steps}
use Rattle.reduced.specs.Reduced.{Answers}
use Rattle.landmark.specs.Marks.{marks, unmarked}
use Rattle.plan.specs.Readable.{Readable}

module _ (w l : List ℕ) where
  -- step i of the list is marked by the rule of document 02 (C-12)
  abbrev pub IsMarked : ℕ → Type 0
  IsMarked i = Landmark (initial w) (goal w) (steps w l) i

  -- these flags are the marks of the list: one for each step, up exactly where it is marked
  pub record AreMarks (flags : Reduction) : Type 0 where
    pub each_step : length flags ≡ length l
    pub marked : (i : ℕ) → keeps flags i ↔ IsMarked i

  -- a valid reduction of the list
  abbrev pub ValidStriking : Reduction → Type 0
  ValidStriking m = ValidReduction (initial w) (goal w) (steps w l) m

  -- demand 3 of whoever tells an answer, refused or not, and a reduction, by what `Tells` says of the two
  pub record DemandThreeOf (limit : ℕ) (Tells : Option Told → Reduction → Type 0) : Type 0 where
    -- no valid striking drops a marked move
    pub marked_kept : (m : Reduction) → ValidStriking m → (i : ℕ) → IsMarked i → keeps m i
    -- `unmarked` is the number of all moves that are not marked
    pub flagged : AreMarks (marks w l)
    -- `left` is valid and wins against every valid reduction: it costs no more, at equal cost it has no more steps, and
    -- where both are equal the other one keeps the step at the first place where the two differ
    pub left : Reduction
    pub minimal : MinimalReduction (initial w) (goal w) (steps w l) left
    -- the list left is a plan of the task, and it is the lodged list with steps struck
    pub plan_left : Plan (task w) (kept left (steps w l))
    -- where no more than the limit are unmarked nothing is refused, and all that is told is that of `left`
    pub answered : unmarked w l ≤ limit → Tells none left
    -- where more are, refusal 12 and how many; one of the two is so of every such list
    pub refused : limit < unmarked w l → Tells (some (record { number = 12; place = unmarked w l })) left

-- of the service: for every accepted sheet, every valid list of no more steps than a list may have, and every output
-- that has as many words as the list has steps
abbrev pub DemandThree : ℕ → List ℕ → List ℕ → List ℕ → Answer → List ℕ → List ℕ → Type 0
DemandThree limit w l before given mask after =
    Readable w l → Plan (task w) (steps w l) → length l ≤ length before
    → DemandThreeOf w l limit (λ t m. Answers t w l m before given mask after)
