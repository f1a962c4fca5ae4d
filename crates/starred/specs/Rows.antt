-- Document 01's worked lists that carry a star, 1 to 9, as one table: each row has the words of a sheet, a list, and
-- what document 01 says of them; of marks, what document 02 does (C-12). What it means that this holds is told by the
-- definitions that the services' contracts cite and by the rules of both. Assumes nothing.
use Rattle.std.specs.Prelude.{ℕ, ◌+◌, ◌≡◌, ◌↔◌, ◌⊎◌, false, length}
use Rattle.std.proofs.Math.Option.{none, some}
use mathlib.Core.List.{List, [], ◌∷◌, Memᴰ}
use Rattle.refusal.specs.Check.{Check, answer}
use Rattle.sas.specs.Task.{State}
use Rattle.sas.specs.Plan.{satisfies, run, Plan, Stuck}
use Rattle.reduction.specs.Reduction.{Reduction, keeps}
use Rattle.reduction.specs.Minimal.{FirstDifference, MinimalReduction}
use Rattle.mask.specs.Mask.{mask_words}
use Rattle.sheet.specs.Decode.{initial, goal, task}
use Rattle.sheet.specs.Causes.{Accepted}
use Rattle.plan.specs.Valid.{steps}
use Rattle.plan.specs.Checked.{plan_checks, lodged_tally}
use Rattle.reduced.specs.Reduced.{reduction_checks, tally_left}
use Rattle.landmark.specs.Marks.{marks}
use Rattle.elimination.specs.declared.single.Elimination.TheVariants.{Plain, Greedy}
use Rattle.elimination.specs.Eliminations.{RuleLeaves}
use Rattle.elimination.specs.Between.Left.{left_by}
use Rattle.minimal.specs.Minimised.{most_unmarked, minimal_checks}
use Rattle.minimal.specs.Between.Computed.{minimal_of}
use Rattle.minimal.specs.Statement.{IsMarked, ValidStriking}
use Rattle.starred.specs.Sheets.{sheet_p, gate_alone, two_writers, one_for_both}

-- the three ways of striking
pub data Way : Type 0 where
  elimination : Way
  greedily : Way
  minimally : Way

abbrev pub all_three : List Way
all_three = elimination ∷ greedily ∷ minimally ∷ []

-- what document 01 says of a list
pub data Saying : Type 0 where
  -- it is valid, at this price with so many steps
  valid_at : ℕ → ℕ → Saying
  -- these positions are marked, and no others; the words of the mask
  marked_at : List ℕ → List ℕ → Saying
  -- each of these ways keeps these positions, and no others, at this price; the words of the mask
  keep_at : List Way → List ℕ → ℕ → List ℕ → Saying
  -- to keep these positions is valid at this price, and loses at this position
  loses_at : List ℕ → ℕ → ℕ → Saying
  -- it is refused by number 11, at this place
  refused_at : ℕ → Saying

-- the words of a sheet, a list, and what is said of it
pub record Row : Type 0 where
  pub sheet : List ℕ
  pub list : List ℕ
  pub says : Saying

-- each element of a list passes
abbrev pub Each : {A : Type 0} → (A → Type 0) → List A → Type 0
Each P [] = Unit
Each P (a ∷ l) = P a × Each P l

-- of the steps just those at these positions pass; the step at index i stands at position i + 1
abbrev pub JustAt : List ℕ → (ℕ → Type 0) → Type 0
JustAt positions P = (i : ℕ) → P i ↔ Memᴰ (i + 1) positions

-- of the list l of the sheet w
module _ (w l : List ℕ) where
  -- what a way of striking leaves
  abbrev pub struck_by : Way → Reduction
  struck_by elimination = left_by Plain w l
  struck_by greedily = left_by Greedy w l
  struck_by minimally = minimal_of w l

  -- the checks of its service, with an output as long as the list
  abbrev pub checks_of : Way → List Check
  checks_of elimination = reduction_checks w l (length l)
  checks_of greedily = reduction_checks w l (length l)
  checks_of minimally = minimal_checks most_unmarked w l (length l)

  -- what it leaves is left by its rule in document 01, and nothing else is
  abbrev pub ByRule : Way → Type 0
  ByRule elimination = RuleLeaves Plain w l (left_by Plain w l)
  ByRule greedily = RuleLeaves Greedy w l (left_by Greedy w l)
  ByRule minimally = MinimalReduction (initial w) (goal w) (steps w l) (minimal_of w l)

  -- a way of striking answers, and keeps just these positions, at this price, told by these words
  pub record KeepsAt (positions : List ℕ) (price : ℕ) (words : List ℕ) (way : Way) : Type 0 where
    pub answers : answer (checks_of way) ≡ none
    pub by_rule : ByRule way
    pub just : JustAt positions (keeps (struck_by way))
    pub tally : tally_left w l (struck_by way) ≡ record { cost = price; steps = length positions }
    pub mask : mask_words (struck_by way) ≡ words

  -- a valid reduction m that keeps just these positions has the price and the steps of the exact reduction, and keeps
  -- the step at index i, the first at which the two differ
  pub record Loses (positions : List ℕ) (price : ℕ) (m : Reduction) (i : ℕ) : Type 0 where
    pub just : JustAt positions (keeps m)
    pub valid : ValidStriking w l m
    pub tally : tally_left w l m ≡ record { cost = price; steps = length positions }
    pub as_low : tally_left w l m ≡ tally_left w l (minimal_of w l)
    pub difference : FirstDifference (minimal_of w l) m i
    pub kept_there : keeps m i

  -- the list is not valid in SAS+'s words: the step at this place is the first that can't be done, or the place is one
  -- past the last step and the list runs to a state in which the goal does not hold
  abbrev pub InvalidAt : ℕ → Type 0
  InvalidAt place =
      Stuck (initial w) (steps w l) place
      ⊎ ((end : State) × (run (initial w) (steps w l) ≡ some end) × (satisfies end (goal w) ≡ false)
      × (place ≡ length l + 1))

  -- what is said holds
  abbrev pub Holds : Saying → Type 0
  Holds (valid_at price n) =
      (answer (plan_checks w l) ≡ none) × Plan (task w) (steps w l)
      × (lodged_tally w l ≡ record { cost = price; steps = n })
  Holds (marked_at positions words) = JustAt positions (IsMarked w l) × (mask_words (marks w l) ≡ words)
  Holds (keep_at ways positions price words) = Each (KeepsAt positions price words) ways
  Holds (loses_at positions price place) =
      (m : Reduction) × (i : ℕ) × (place ≡ i + 1) × Loses positions price m i
  Holds (refused_at place) =
      (answer (plan_checks w l) ≡ some (record { number = 11; place = place })) × InvalidAt place

-- a row holds: its sheet is accepted, and what is said of its list holds
abbrev pub RowHolds : Row → Type 0
RowHolds r = Accepted r.sheet × Holds r.sheet r.list r.says

-- the words of a mask that has ones in its first word alone
abbrev pub in_first_word : ℕ → List ℕ
in_first_word first = first ∷ 0 ∷ 0 ∷ 0 ∷ []

-- the list of the worked lists 1 and 2: lamp, lift, drop, lift, drain, drop
abbrev pub list_1 : List ℕ
list_1 = 3 ∷ 0 ∷ 2 ∷ 0 ∷ 1 ∷ 2 ∷ []

-- one row
abbrev pub said_of : List ℕ → List ℕ → Saying → Row
said_of w l c = record { sheet = w; list = l; says = c }

-- the worked lists 1 to 9, in order
abbrev pub starred_rows : List Row
starred_rows =
    -- 1: "valid, price 23; only step 5 marked"
    said_of sheet_p list_1 (valid_at 23 6)
    ∷ said_of sheet_p list_1 (marked_at (5 ∷ []) (in_first_word 16))
    -- 2: "elimination, greedy and exact all keep steps 4, 5, 6, price 12, first mask word 56. Keeping 2, 5, 6 also
    -- costs 12; it loses at step 2"
    ∷ said_of sheet_p list_1 (keep_at all_three (4 ∷ 5 ∷ 6 ∷ []) 12 (in_first_word 56))
    ∷ said_of sheet_p list_1 (loses_at (2 ∷ 5 ∷ 6 ∷ []) 12 2)
    -- 3: "steps 1 and 2 marked; nothing struck", and in document 02 "now has step 3 marked too"
    ∷ said_of sheet_p (0 ∷ 1 ∷ 2 ∷ []) (marked_at (1 ∷ 2 ∷ 3 ∷ []) (in_first_word 7))
    ∷ said_of sheet_p (0 ∷ 1 ∷ 2 ∷ []) (keep_at all_three (1 ∷ 2 ∷ 3 ∷ []) 12 (in_first_word 7))
    -- 4 to 6: "refusal 11", at the places 1, 2 and 3
    ∷ said_of sheet_p [] (refused_at 1)
    ∷ said_of sheet_p (0 ∷ 0 ∷ []) (refused_at 2)
    ∷ said_of sheet_p (0 ∷ 1 ∷ []) (refused_at 3)
    -- 7: "elimination keeps step 2, price 9; greedy and exact keep step 1, price 1"
    ∷ said_of two_writers (0 ∷ 1 ∷ []) (keep_at (elimination ∷ []) (2 ∷ []) 9 (in_first_word 2))
    ∷ said_of two_writers (0 ∷ 1 ∷ []) (keep_at (greedily ∷ minimally ∷ []) (1 ∷ []) 1 (in_first_word 1))
    -- 8: "greedy keeps 1 and 3, price 8; exact keeps 2, price 6"
    ∷ said_of one_for_both (0 ∷ 1 ∷ 2 ∷ []) (keep_at (greedily ∷ []) (1 ∷ 3 ∷ []) 8 (in_first_word 5))
    ∷ said_of one_for_both (0 ∷ 1 ∷ 2 ∷ []) (keep_at (minimally ∷ []) (2 ∷ []) 6 (in_first_word 2))
    -- 9: "all three strike everything"
    ∷ said_of gate_alone (0 ∷ 2 ∷ []) (keep_at all_three [] 0 (in_first_word 0))
    ∷ []
