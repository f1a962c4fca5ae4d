-- A reduction on its way through the search, told by its tally and its choices, and what the two turns make of it. Not
-- to be believed: proofs/BestLaws ties it to `minimal` of `reduction`. Assumes nothing.
use Rattle.std.specs.Prelude.{ℕ, ◌≤◌, ◌<◌, ◌≡◌, true, false, List, length, get_or, drop}
use Rattle.reduction.specs.Reduction.{Reduction, whole, valid_for, meets}
use Rattle.reduction.specs.Between.Order.{Contains}
use Rattle.reduction.specs.Between.Found.{minimal}
use Rattle.reduction.specs.Between.Search.{Visit, Turn, turn}
use Rattle.reduction.specs.Between.Sound.{FlagsKept}
use Rattle.reduction.specs.Between.Cuts.{tests}
use Rattle.reduction.specs.Between.Course.{OnCourse}
use Rattle.tally.specs.declared.Tally.{Tally}
use Rattle.sheet.specs.Decode.{initial, goal}
use Rattle.plan.specs.Limits.{most_steps}
use Rattle.plan.specs.Readable.{Readable}
use Rattle.plan.specs.Valid.{steps}
use Rattle.fact_bits.specs.declared.bits.Behind.{Behind}
use Rattle.fact_bits.specs.Between.Bits.{ToldBehind}
use Rattle.reduced.specs.Reduced.{tally_left}
use Rattle.reduced.specs.Between.Held.{Leaves}
use Rattle.packed_state.specs.Between.Chosen.{most_choices, open_before, chosen}
use Rattle.packed_state.specs.Between.Packed.{TellsState}
use Rattle.choice_rows.specs.declared.rows.Choice.{Choice}
use Rattle.choice_rows.specs.Between.Rows.{choices_before}
use Rattle.turns.specs.declared.chosen.Chosen.{Chosen}

-- c tells the reduction m of the list l, which keeps the flagged steps
pub record Chooses (w l : List ℕ) (flags m : Reduction) (c : Chosen) : Type 0 where
  pub fits : length m ≡ length l
  pub flagged : Contains m flags
  pub counted : c.tally ≡ tally_left w l m
  pub told_by : c.bits ≡ chosen flags m (length l)

-- what the search is lent: a list that can be read and is valid, and flags of steps that every valid reduction keeps
pub record Lent (w l : List ℕ) (flags : Reduction) : Type 0 where
  pub readable : Readable w l
  pub fits : length flags ≡ length l
  pub valid : valid_for (meets (goal w)) (initial w) (steps w l) ≡ true
  pub flagged : FlagsKept (meets (goal w)) (initial w) (steps w l) flags
  pub few : open_before flags (length l) ≤ most_choices

-- the choices at its unflagged steps
pub record LentRows (w l : List ℕ) (flags : Reduction) (choices : List Choice) : Type 0 where
  pub lent : Lent w l flags
  pub behind : List Behind
  pub told : ToldBehind w l flags behind
  pub filled : choices ≡ choices_before w l flags behind (length l)

-- a visit of unflagged step d, or behind the last
pub record AtChoice (l : List ℕ) (flags : Reduction) (v : Visit) (d : ℕ) : Type 0 where
  pub within : v.index ≤ length l
  pub unflagged : v.index < length l → get_or flags v.index false ≡ false
  pub numbered : d ≡ open_before flags v.index

-- a turn at unflagged step d in a state: of what is kept so far and of the best it makes what the turn of the search
-- makes of them, whatever list has these choices
pub record TurnTold (choices : List Choice) (t : Turn) (d : ℕ) (state : List ℕ) (so_far best after : Chosen) : Type 0
  where
    pub tells : (w l : List ℕ) (flags : Reduction) → LentRows w l flags choices → (v : Visit)
        → AtChoice l flags v d → OnCourse (goal w) (initial w) (steps w l) flags v
        → TellsState w l v.so_far v.index state
        → Chooses w l flags v.so_far so_far → Chooses w l flags v.best best
        → Chooses w l flags
        (turn (tests (goal w) (steps w l) flags) (steps w l) t (drop v.index (steps w l)) v) after

-- the choices are those of the minimal reduction, where the lodged plan's tally is told
pub record Begins (w l : List ℕ) (flags : Reduction) (lodged : Tally) (bits : ℕ) : Type 0 where
  pub found : Lent w l flags → lodged ≡ tally_left w l (whole l)
      → bits ≡ chosen flags (minimal (meets (goal w)) (initial w) (steps w l)) (length l)

-- what is found are the flags of the minimal reduction
pub record Finds (w l : List ℕ) (flags : Reduction) (lodged : Tally) (kept : Reduction) : Type 0 where
  pub sized : length kept ≡ most_steps
  pub leaves : Lent w l flags → lodged ≡ tally_left w l (whole l)
      → Leaves l (minimal (meets (goal w)) (initial w) (steps w l)) kept
