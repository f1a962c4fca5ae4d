-- A reduction as a service tells it, and how many bytes are printed of one. Assumes nothing.
use Rattle.std.specs.Prelude.{ℕ, ◌+◌, ◌*◌, ◌≤◌, ◌≡◌, List, [], ◌∷◌, length}
use Rattle.lines.specs.Lines.{row}
use Rattle.lines.specs.Puts.{Puts}
use Rattle.lines.specs.declared.Page.{Page}
use Rattle.reduction.specs.Reduction.{Reduction}
use Rattle.tally.specs.declared.Tally.{Tally}
use Rattle.mask.specs.declared.Mask.{Mask}
use Rattle.mask.specs.Mask.{mask_bits, mask_words}
use Rattle.sheet.specs.Layout.{cost_word}
use Rattle.plan.specs.Limits.{most_steps}
use Rattle.plan.specs.Checked.{lodged_tally}
use Rattle.landmark.specs.Marks.{marked}
use Rattle.reduced.specs.Reduced.{tally_left}
use Rattle.program.specs.Between.Room.{line_room}
use Rattle.minimal.specs.Minimised.{Shortening}

-- the most bytes that are printed: three lines, and one for each step
abbrev pub report_room : ℕ
report_room = line_room * (3 + most_steps)

-- a mask that is the reduction m of the list l
pub record MasksSteps (l : List ℕ) (m : Reduction) (mask : Mask) : Type 0 where
  pub fits : length m ≡ length l
  pub few : length m ≤ mask_bits
  pub told_by : mask.words ≡ mask_words m

-- what is told of the list l of the sheet w and of its reduction m
pub record Reports (w l : List ℕ) (m : Reduction) (r : Shortening) (kept : Tally) : Type 0 where
  pub lodged : r.lodged ≡ lodged_tally w l
  pub marks : r.marked ≡ marked w l
  pub left : kept ≡ tally_left w l m
  pub steps : MasksSteps l m r.mask

-- so many lines are put, no longer than lines are
pub record PutsLines (n : ℕ) (text : List ℕ) (before after : Page) : Type 0 where
  pub puts : Puts text before after
  pub short : length text ≤ line_room * n

-- the line of a step with its action is put
abbrev pub PutsStep : List ℕ → ℕ → ℕ → Page → Page → Type 0
PutsStep w position a = PutsLines 1 (row position (a ∷ cost_word w a ∷ []))
