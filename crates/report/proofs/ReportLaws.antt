-- The lines of the kept steps, put one by one, and the whole report, line by line. By walking along the list. Assumes nothing.
use Prim.Native.Nat.{ℕ, zero, suc, ◌+◌, ◌≤◌, ◌<◌}
use native.Mathlib.Omega.{arith}
use native.Mathlib.Numerals.{add-one}
use mathlib.Core.Path.{◌≡◌, refl, sym, ◌∙◌, ap, subst}
use mathlib.Core.Bool.{Bool, true, false}
use mathlib.Core.List.{List, [], ◌∷◌, ◌++◌, append_assoc, append-nil}
use lib.ListN.{length, get_or, take, length-append}
use lib.Seq.{take-length}
use Rattle.ascii.specs.Bytes.{ascii}
use Rattle.lines.specs.Lines.{numeral, line, row}
use Rattle.lines.specs.Puts.{Puts}
use Rattle.lines.specs.declared.Page.{Page}
use Rattle.lines.proofs.PutsLaws.{puts_nothing, puts_both}
use Rattle.reduction.specs.Reduction.{Reduction}
use Rattle.tally.specs.declared.Tally.{Tally}
use Rattle.mask.specs.declared.Mask.{Mask}
use Rattle.mask.specs.Mask.{bit_up}
use Rattle.mask.proofs.MaskTheorem.{up_is_flag}
use Rattle.sheet.specs.Layout.{cost_word}
use Rattle.plan.specs.Checked.{lodged_tally}
use Rattle.landmark.specs.Marks.{marked}
use Rattle.reduced.specs.Reduced.{tally_left}
use Rattle.minimal.specs.Minimised.{Shortening}
use Rattle.program.specs.Printed.{tally_line}
use Rattle.program.specs.Between.Room.{word_room, line_room, ShortLine}
use Rattle.report.specs.Report.{step_lines, report}
use Rattle.report.specs.Between.Reported.{MasksSteps, Reports, PutsLines, PutsStep}

-- the line of a step at position i
abbrev step_line : List ℕ → ℕ → ℕ → List ℕ
step_line w i a = row i (a ∷ cost_word w a ∷ [])

pub step_printed : (w : List ℕ) {before after : Page} (position action : ℕ) {a price : ℕ} → a ≡ action → price ≡ cost_word w action
    → Puts (row position (a ∷ price ∷ [])) before after → ShortLine (numeral position) (a ∷ price ∷ []) → length (numeral position) ≤ word_room
    → PutsStep w position action before after
step_printed w position action acts costs puts short begins = rw (← costs, ← acts) (record { puts = puts; short = omega (arith, short begins) })

-- and nothing of one that is struck
abbrev line_if : Bool → List ℕ → List ℕ
line_if true t = t
line_if false t = []

-- the lines of one step more
steps_next : (w : List ℕ) (k : ℕ) (l : List ℕ) (m : Reduction) (i : ℕ) → i < length l → length m ≡ length l
    → step_lines w k (take (suc i) l) (take (suc i) m) ≡ step_lines w k (take i l) (take i m) ++ line_if (get_or m i false) (step_line w (k + i) (get_or l i 0))
unfolding step_lines
steps_next w k [] m i h fits = absurd (omega arith)
steps_next w k (a ∷ l) [] i h fits = absurd (omega arith)
steps_next w k (a ∷ l) (true ∷ m) zero h fits = let same : k + 0 ≡ k = omega arith in rw same (append-nil (step_line w k a))
steps_next w k (a ∷ l) (false ∷ m) zero h fits = refl
steps_next w k (a ∷ l) (true ∷ m) (suc i) h fits =
    let same : k + suc i ≡ k + 1 + i = omega arith in
    rw same
    (ap (λ t. step_line w k a ++ t) (steps_next w (k + 1) l m i (omega arith) (omega arith))
    ∙ sym (append_assoc (step_line w k a) (step_lines w (k + 1) (take i l) (take i m)) (line_if (get_or m i false) (step_line w (k + 1 + i) (get_or l i 0)))))
steps_next w k (a ∷ l) (false ∷ m) (suc i) h fits =
    let same : k + suc i ≡ k + 1 + i = omega arith in
    rw same (steps_next w (k + 1) l m i (omega arith) (omega arith))

-- what has been put of the steps before index i
abbrev pub StepsPut : List ℕ → List ℕ → Mask → Page → ℕ → Page → Type 0
StepsPut w l mask before i after = (m : Reduction) → MasksSteps l m mask → PutsLines i (step_lines w 1 (take i l) (take i m)) before after

pub steps_nothing : (w l : List ℕ) (mask : Mask) (page : Page) → StepsPut w l mask page 0 page
unfolding step_lines
steps_nothing w l mask page m told = record { puts = puts_nothing page; short = omega arith }

module _ (w l : List ℕ) (mask : Mask) (before between : Page) (i : ℕ) (h : i < length l) (so_far : StepsPut w l mask before i between) where
  flag_is : (m : Reduction) → MasksSteps l m mask → (b : Bool) → bit_up mask.words i ≡ b → get_or m i false ≡ b
  flag_is m told b up = sym (up_is_flag m told.few i) ∙ ap (λ ws. bit_up ws i) (sym told.told_by) ∙ up

  one_more : (m : Reduction) → MasksSteps l m mask → (b : Bool) → bit_up mask.words i ≡ b
      → step_lines w 1 (take i l) (take i m) ++ line_if b (step_line w (i + 1) (get_or l i 0)) ≡ step_lines w 1 (take (i + 1) l) (take (i + 1) m)
  one_more m told b up =
      let position : 1 + i ≡ suc i = omega arith in
      rw (add-one i) (sym (rw (flag_is m told b up, position) at (steps_next w 1 l m i h told.fits)))

  pub steps_kept : {after : Page} → bit_up mask.words i ≡ true → PutsStep w (i + 1) (get_or l i 0) between after → StepsPut w l mask before (i + 1) after
  steps_kept {after} up here m told =
      let put : PutsLines i (step_lines w 1 (take i l) (take i m)) before between = so_far m told in
      let long = length-append (step_lines w 1 (take i l) (take i m)) (step_line w (i + 1) (get_or l i 0)) in
      subst (λ t. PutsLines (i + 1) t before after) (one_more m told true up)
      (record { puts = puts_both put.puts here.puts; short = omega (arith, long, put.short, here.short) })

  pub steps_struck : bit_up mask.words i ≡ false → StepsPut w l mask before (i + 1) between
  steps_struck up m told =
      let put : PutsLines i (step_lines w 1 (take i l) (take i m)) before between = so_far m told in
      subst (λ t. PutsLines (i + 1) t before between) (sym (append-nil _) ∙ one_more m told false up)
      (record { puts = put.puts; short = omega (arith, put.short) })

pub steps_all : (w l : List ℕ) (mask : Mask) (before : Page) (i : ℕ) (after : Page) → i ≡ length l → StepsPut w l mask before i after
    → (m : Reduction) → MasksSteps l m mask → PutsLines (length l) (step_lines w 1 l m) before after
steps_all w l mask before i after all put m told =
    let whole : take i m ≡ m = rw (all, ← told.fits) (take-length m) in
    let listed : take i l ≡ l = rw all (take-length l) in
    rw (← all) (rw (whole, listed) at (put m told))

-- the report, line by line
pub reports : (w l : List ℕ) (told : Shortening) (kept : Tally) {mark : ℕ} {before first second third after : Page}
    → Puts (tally_line (ascii "lodged") told.lodged) before first → length (tally_line (ascii "lodged") told.lodged) ≤ line_room
    → mark ≡ told.marked → Puts (line (ascii "marked") (mark ∷ [])) first second → length (line (ascii "marked") (mark ∷ [])) ≤ line_room
    → Puts (tally_line (ascii "kept") kept) second third → length (tally_line (ascii "kept") kept) ≤ line_room
    → ((m : Reduction) → MasksSteps l m told.mask → PutsLines (length l) (step_lines w 1 l m) third after)
    → (m : Reduction) → Reports w l m told kept → PutsLines (3 + length l) (report w l m) before after
reports w l told kept lodged short_lodged is marks short_marks left short_left steps m reported =
    let rest : PutsLines (length l) (step_lines w 1 l m) _ _ = steps m reported.steps in
    let first_line : length (tally_line (ascii "lodged") (lodged_tally w l)) ≤ line_room = rw reported.lodged at short_lodged in
    let second_line : length (line (ascii "marked") (marked w l ∷ [])) ≤ line_room = rw (is, reported.marks) at short_marks in
    let third_line : length (tally_line (ascii "kept") (tally_left w l m)) ≤ line_room = rw reported.left at short_left in
    record {
      puts = puts_both (rw reported.lodged at lodged) (puts_both (rw (is, reported.marks) at marks) (puts_both (rw reported.left at left) rest.puts));
      short =
          let from_third = length-append (tally_line (ascii "kept") (tally_left w l m)) (step_lines w 1 l m) in
          let from_Second = length-append (line (ascii "marked") (marked w l ∷ [])) (tally_line (ascii "kept") (tally_left w l m) ++ step_lines w 1 l m) in
          let all = length-append (tally_line (ascii "lodged") (lodged_tally w l)) (line (ascii "marked") (marked w l ∷ []) ++ (tally_line (ascii "kept") (tally_left w l m) ++ step_lines w 1 l m)) in
          omega (arith, all, from_Second, from_third, first_line, second_line, third_line, rest.short);
    }
