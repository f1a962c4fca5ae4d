-- May this list be lodged? A licence, as whatever tells one has it, and as `license` does. Assumes nothing.
use Rattle.std.specs.Prelude.{ℕ, ◌≤◌, ◌<◌, ◌≡◌, ◌↔◌, List, length}
use Rattle.std.proofs.Math.Option.{none}
use Rattle.sas.specs.Plan.{Plan, cost}
use Rattle.reduction.specs.Reduction.{Reduction, kept, whole, compose}
use Rattle.reduction.specs.Minimal.{MinimalReduction}
use Rattle.sheet.specs.Decode.{goal, initial, task}
use Rattle.plan.specs.Valid.{steps}
use Rattle.plan.specs.Readable.{Readable}
use Rattle.reduced.specs.Reduced.{Answers}
use Rattle.landmark.specs.Marks.{marks, unmarked}
use Rattle.elimination.specs.declared.single.Elimination.{Elimination}
use Rattle.elimination.specs.Eliminations.{LeftByRule}
use Rattle.cheaper.specs.Cheaper.{LeftByCheaper}
use Rattle.minimal.specs.Minimised.{most_unmarked}
use Rattle.minimal.specs.Statement.{IsMarked, AreMarks, ValidStriking}
use Rattle.claim.specs.declared.answer.Claim.{Claim}
use Rattle.claim.specs.declared.answer.Claim.TheVariants.{Least, Irreducible, Open}
use Rattle.claim.specs.Licensing.{Licensing}

module _ (w l : List ℕ) where
  -- what the licence asks of the list l of the sheet w: every valid striking of it strikes nothing
  abbrev pub NothingToStrike : Type 0
  NothingToStrike = (m : Reduction) → ValidStriking w l m → m ≡ whole l

  -- every step of the list is marked
  abbrev pub AllMarked : Type 0
  AllMarked = (i : ℕ) → i < length l → IsMarked w l i

  -- a valid list whose moves are all marked has no valid striking but the whole
  abbrev pub MarkedIsWhole : Type 0
  MarkedIsWhole =
      Readable w l → Plan (task w) (steps w l) → AllMarked → (m : Reduction) → ValidStriking w l m ↔ (m ≡ whole l)

module _ (w l : List ℕ) where
  -- when a claim is made, and what it says of the reduction `left` of the lodged list l. Least: at most 20 moves are
  -- unmarked, and `left` is document 01's exact reduction. Irreducible: more are, but at most 20 of what the cheaper
  -- elimination leaves, and `left` is that and of it the exact reduction. Of both, nothing can be struck from what is
  -- left. Open: there too more are, so many, and `left` is what the cheaper elimination leaves
  abbrev pub Claimed : Claim → Reduction → Type 0
  Claimed Least left =
      (unmarked w l ≤ most_unmarked) × MinimalReduction (initial w) (goal w) (steps w l) left
      × NothingToStrike w (kept left l)
  Claimed Irreducible left =
      (most_unmarked < unmarked w l) × ((c : Reduction) × (m : Reduction) × LeftByCheaper w l c
      × (unmarked w (kept c l) ≤ most_unmarked) × MinimalReduction (initial w) (goal w) (steps w (kept c l)) m
      × (left ≡ compose c m)) × NothingToStrike w (kept left l)
  Claimed (Open n) left =
      (most_unmarked < unmarked w l) × (most_unmarked < n) × (n ≡ unmarked w (kept left l)) × LeftByCheaper w l left

  -- a claim and the reduction that it is made of
  pub record Licence (claim : Claim) (left : Reduction) : Type 0 where
    -- of the three claims it is the strongest whose condition is met
    pub claimed : Claimed claim left
    -- `unmarked` is the number of all moves that are not marked, of any list of the sheet
    pub flagged : (some : List ℕ) → AreMarks w some (marks w some)
    -- the list left is valid: a plan of the task, and the lodged list with steps struck
    pub valid_left : ValidStriking w l left
    pub plan_left : Plan (task w) (kept left (steps w l))
    -- it costs no more than what either elimination leaves by its rule
    pub no_dearer : (by : Elimination) (m : Reduction) → LeftByRule by w l m
        → cost (kept left (steps w l)) ≤ cost (kept m (steps w l))

  -- a licence, told by what `Tells` says of its claim and its reduction
  pub record LicensedWith (Tells : Claim → Reduction → Type 0) : Type 0 where
    pub claim : Claim
    pub left : Reduction
    pub licence : Licence claim left
    pub told : Tells claim left

-- by the service: for every accepted sheet, every valid list of no more steps than a list may have, and every output
-- that has as many words as the list has steps
abbrev pub MayBeLodged : List ℕ → List ℕ → List ℕ → Licensing → List ℕ → Type 0
MayBeLodged w l before r after =
    Readable w l → Plan (task w) (steps w l) → length l ≤ length before → LicensedWith w l
    (λ c m. (r.claim ≡ c) × Answers none w l m before r.told.answer r.told.mask.words after)
