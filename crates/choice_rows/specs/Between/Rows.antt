-- The choices at the unflagged steps of a plan. Not to be believed: proofs/RowTheorem says what their rows tell. Assumes
-- nothing.
use Rattle.std.specs.Prelude.{ℕ, zero, suc, ◌-◌, ◌/◌, ◌%◌, ◌≤◌, ◌<◌, ◌≡◌, true, false, cond, ◌&&◌, ltb, eqb}
use Rattle.std.specs.Prelude.{List, [], ◌∷◌, ◌++◌, length, get_or, set, take}
use Rattle.sas.specs.Task.{Fact, Assignment}
use Rattle.sas.specs.Plan.{written, needed}
use Rattle.reduction.specs.Reduction.{Reduction}
use Rattle.sheet.specs.Layout.{cost_word}
use Rattle.sheet.specs.Decode.{action}
use Rattle.fact_bits.specs.declared.bits.Behind.{Behind}
use Rattle.fact_bits.specs.Between.Bits.{no_bits}
use Rattle.packed_state.specs.declared.packed.Row.{Row}
use Rattle.packed_state.specs.Between.Chosen.{most_choices, open_before}
use Rattle.packed_state.specs.Between.Packed.{state_bytes, no_row}
use Rattle.choice_rows.specs.declared.rows.Choice.{Choice}

-- bits that ask for every fact
abbrev pub all_bits : ℕ
all_bits = 18446744073709551615

-- a fact put into a row, where its bit, the lowest, is one
unfoldable pub laid : Row → ℕ → Fact → Row
laid row bits f =
    cond (eqb (bits % 2) 1 && ltb f.variable state_bytes)
    (record { asked = set row.asked f.variable true; values = set row.values f.variable f.value }) row

-- those of an assignment, one after another
unfoldable pub laid_all : Row → ℕ → Assignment → Row
laid_all row bits [] = row
laid_all row bits (f ∷ q) = laid_all (laid row bits f) (bits / 2) q

-- as many as a row has room for
abbrev pub stamped_row : Row → ℕ → Assignment → Row
stamped_row row bits q = laid_all row bits (take state_bytes q)

-- no choice
abbrev pub no_choice : Choice
no_choice = record { cost = 0; strike = no_row; keep = no_row; useful = no_row; struck = no_row; kept = no_row }

-- what action a costs, is asked and writes, by the bits of what it may write
unfoldable pub choice_of : List ℕ → ℕ → Behind → Choice
choice_of w a bits =
    record {
      cost = cost_word w a;
      strike = stamped_row no_row bits.wanted (written (action w a));
      keep = stamped_row no_row all_bits (needed (action w a));
      useful = stamped_row no_row (all_bits - bits.useless) (written (action w a));
      struck = no_row;
      kept = stamped_row no_row all_bits (written (action w a));
    }

-- a choice behind which an assignment is written
unfoldable pub passed : Choice → Assignment → Choice
passed c q = record c { struck = stamped_row c.struck all_bits q; kept = stamped_row c.kept all_bits q }

-- the last choice is so
unfoldable pub passed_last : List Choice → Assignment → List Choice
passed_last cs q = set cs (length cs - 1) (passed (get_or cs (length cs - 1) no_choice) q)

-- the choices of a plan, and what the flagged steps in front of the first unflagged one write
pub record PlanChoices : Type 0 where
  pub start : Row
  pub steps : List Choice

-- those of no step
abbrev pub no_choices : PlanChoices
no_choices = record { start = no_row; steps = [] }

-- with one more choice, where there is room
unfoldable pub with_choice : PlanChoices → Choice → PlanChoices
with_choice cs c = cond (ltb (length cs.steps) most_choices) (record cs { steps = cs.steps ++ c ∷ [] }) cs

-- with an assignment written behind the last choice, or in front of the first
unfoldable pub with_passed : PlanChoices → Assignment → PlanChoices
with_passed cs q =
    cond (eqb (length cs.steps) 0)
    (record cs { start = stamped_row cs.start all_bits q }) (record cs { steps = passed_last cs.steps q })

-- of the memory for choices the first `count` are taken, and the others are those of no step
pub record ChoicesHeld (all : List Choice) (count : ℕ) : Type 0 where
  pub sized : length all ≡ most_choices
  pub within : count ≤ most_choices
  pub left : (k : ℕ) → count ≤ k → k < most_choices → get_or all k no_choice ≡ no_choice

-- what the flagged steps before index i write that are in front of the first unflagged one
unfoldable pub start_before : List ℕ → List ℕ → Reduction → ℕ → Row
start_before w l flags zero = no_row
start_before w l flags (suc i) =
    cond (get_or flags i false && eqb (open_before flags i) 0)
    (stamped_row (start_before w l flags i) all_bits (written (action w (get_or l i 0)))) (start_before w l flags i)

-- the choices at the unflagged steps before index i, behind which the flagged ones are written
unfoldable pub choices_before : List ℕ → List ℕ → Reduction → List Behind → ℕ → List Choice
choices_before w l flags behind zero = []
choices_before w l flags behind (suc i) =
    cond (get_or flags i false)
    (passed_last (choices_before w l flags behind i) (written (action w (get_or l i 0))))
    (choices_before w l flags behind i ++ choice_of w (get_or l i 0) (get_or behind i no_bits) ∷ [])

-- the choices at all unflagged steps of the list l
pub record ChoicesTold (w l : List ℕ) (flags : Reduction) (behind : List Behind) (c : PlanChoices) : Type 0 where
  pub started : c.start ≡ start_before w l flags (length l)
  pub filled : c.steps ≡ choices_before w l flags behind (length l)
