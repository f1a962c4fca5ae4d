-- Which choices a step changes: a flagged one what is written behind the last, and an unflagged one none, behind which it puts its own. So what is asked at an
-- unflagged step stays as it was stamped, and what is written there grows by the flagged steps behind it and stays from the next unflagged one on. By induction
-- on the index. Assumes nothing.
use Prim.Native.Nat.{ℕ, zero, suc, ◌-◌, ◌≤◌, ◌<◌}
use native.Mathlib.Decide.{le_ind}
use native.Mathlib.Omega.{arith}
use mathlib.Core.Path.{◌≡◌, refl, sym, ◌∙◌, ap}
use mathlib.Core.Bool.{Bool, true, false, true≢false}
use mathlib.Core.List.{List, [], ◌∷◌, ◌++◌}
use lib.ListN.{length, get_or, length-set, length-append, get_or-append}
use lib.Seq.{get_or-append_seam, get_or-set_same, get_or-set_other}
use lib.Dec.{eqb}
use borrow.Author.Tests.{eqb-true, eqb-false, ne_eqb}
use Rattle.sas.specs.Task.{Assignment}
use Rattle.sas.specs.Plan.{written}
use Rattle.reduction.specs.Reduction.{Reduction}
use Rattle.sheet.specs.Decode.{action}
use Rattle.fact_bits.specs.declared.bits.Behind.{Behind}
use Rattle.fact_bits.specs.Between.Bits.{no_bits}
use Rattle.packed_state.specs.Between.Chosen.{open_before}
use Rattle.packed_state.proofs.ChosenLaws.{open_flagged, open_unflagged, open_rises}
use Rattle.choice_rows.specs.declared.rows.Choice.{Choice}
use Rattle.choice_rows.specs.Between.Rows.{all_bits, stamped_row, no_choice, choice_of, passed, passed_last, start_before, choices_before}

-- two choices cost and ask the same
pub record SameAsked (c d : Choice) : Type 0 where
  pub cost : c.cost ≡ d.cost
  pub strike : c.strike ≡ d.strike
  pub keep : c.keep ≡ d.keep
  pub useful : c.useful ≡ d.useful

passed_asked : (c d : Choice) (q : Assignment) → SameAsked c d → SameAsked (passed c q) d
unfolding passed
passed_asked c d q same = record { cost = same.cost; strike = same.strike; keep = same.keep; useful = same.useful }

module _ (w l : List ℕ) (flags : Reduction) (behind : List Behind) where
  abbrev choices_at : ℕ → List Choice
  choices_at i = choices_before w l flags behind i

  abbrev choice_at : ℕ → ℕ → Choice
  choice_at i c = get_or (choices_at i) c no_choice

  -- what a step may write
  abbrev effect : ℕ → Assignment
  effect i = written (action w (get_or l i 0))

  choices_flagged : (i : ℕ) → get_or flags i false ≡ true → choices_at (suc i) ≡ passed_last (choices_at i) (effect i)
  unfolding choices_before
  choices_flagged i up = rw up

  choices_unflagged : (i : ℕ) → get_or flags i false ≡ false
      → choices_at (suc i) ≡ choices_at i ++ choice_of w (get_or l i 0) (get_or behind i no_bits) ∷ []
  unfolding choices_before
  choices_unflagged i down = rw down

  last_length : (cs : List Choice) (q : Assignment) → length (passed_last cs q) ≡ length cs
  unfolding passed_last
  last_length cs q = length-set cs (length cs - 1) _

  -- there is one for each unflagged step
  pub choices_long : (i : ℕ) → length (choices_before w l flags behind i) ≡ open_before flags i
  unfolding choices_before open_before
  choices_long zero = refl
  choices_long (suc i) = by_case (choices_long i) (get_or flags i false) refl
    where
      by_case : length (choices_at i) ≡ open_before flags i → (b : Bool) → get_or flags i false ≡ b → length (choices_at (suc i)) ≡ open_before flags (suc i)
      by_case so_far true up = ap length (choices_flagged i up) ∙ last_length (choices_at i) (effect i) ∙ so_far ∙ sym (open_flagged flags i up)
      by_case so_far false down =
          ap length (choices_unflagged i down)
          ∙ length-append (choices_at i) (choice_of w (get_or l i 0) (get_or behind i no_bits) ∷ [])
          ∙ omega (arith, so_far, open_unflagged flags i down)

  -- a flagged step is written behind the last choice
  pub passed_there : (k c : ℕ) → get_or flags k false ≡ true → open_before flags k ≡ suc c
      → get_or (choices_before w l flags behind (suc k)) c no_choice
      ≡ passed (get_or (choices_before w l flags behind k) c no_choice) (written (action w (get_or l k 0)))
  unfolding passed_last
  passed_there k c up last =
      let here : length (choices_at k) - 1 ≡ c = omega (arith, choices_long k) in
      ap (λ cs. get_or cs c no_choice) (choices_flagged k up)
      ∙ rw here (get_or-set_same (choices_at k) c (passed (choice_at k c) (effect k)) no_choice (omega (arith, choices_long k)))

  -- and others stay
  flagged_stays : (k c : ℕ) → get_or flags k false ≡ true → suc c < open_before flags k → choice_at (suc k) c ≡ choice_at k c
  unfolding passed_last
  flagged_stays k c up before =
      ap (λ cs. get_or cs c no_choice) (choices_flagged k up)
      ∙ get_or-set_other (choices_at k) (length (choices_at k) - 1) c _ no_choice (λ same. omega (arith, choices_long k))

  -- an unflagged one has its own behind them
  pub choice_there : (i : ℕ) → get_or flags i false ≡ false
      → get_or (choices_before w l flags behind (suc i)) (open_before flags i) no_choice ≡ choice_of w (get_or l i 0) (get_or behind i no_bits)
  choice_there i down =
      ap (λ cs. get_or cs (open_before flags i) no_choice) (choices_unflagged i down)
      ∙ rw (← choices_long i) (get_or-append_seam (choices_at i) (choice_of w (get_or l i 0) (get_or behind i no_bits)) [] no_choice)

  unflagged_stays : (k c : ℕ) → get_or flags k false ≡ false → c < open_before flags k → choice_at (suc k) c ≡ choice_at k c
  unflagged_stays k c down before =
      ap (λ cs. get_or cs c no_choice) (choices_unflagged k down)
      ∙ get_or-append (choices_at k) (choice_of w (get_or l k 0) (get_or behind k no_bits) ∷ []) no_choice c (omega (arith, choices_long k))

  -- what is asked at an unflagged step stays as it was stamped
  pub asked_stays : (i n : ℕ) → i < n → get_or flags i false ≡ false
      → SameAsked (get_or (choices_before w l flags behind n) (open_before flags i) no_choice) (choice_of w (get_or l i 0) (get_or behind i no_bits))
  asked_stays i n inside down =
      le_ind (λ k. SameAsked (choice_at k (open_before flags i)) (choice_of w (get_or l i 0) (get_or behind i no_bits)))
      (rw (choice_there i down) (record { cost = refl; strike = refl; keep = refl; useful = refl }))
      (λ k later so_far. on k later so_far (get_or flags k false) refl) n inside
    where
      c : ℕ
      c = open_before flags i

      d : Choice
      d = choice_of w (get_or l i 0) (get_or behind i no_bits)

      on : (k : ℕ) → suc i ≤ k → SameAsked (choice_at k c) d → (b : Bool) → get_or flags k false ≡ b → SameAsked (choice_at (suc k) c) d
      on k later so_far false free =
          rw (unflagged_stays k c free (omega (arith, open_unflagged flags i down, open_rises flags (suc i) k later))) so_far
      on k later so_far true up = by_case (eqb (open_before flags k) (suc c)) refl
        where
          by_case : (b : Bool) → eqb (open_before flags k) (suc c) ≡ b → SameAsked (choice_at (suc k) c) d
          by_case true e = rw (passed_there k c up (eqb-true (open_before flags k) (suc c) e)) (passed_asked (choice_at k c) d (effect k) so_far)
          by_case false e =
              let apart = eqb-false (open_before flags k) (suc c) e in
              rw (flagged_stays k c up (omega (arith, apart, open_unflagged flags i down, open_rises flags (suc i) k later))) so_far

  -- from the next unflagged step on a choice stays
  pub choice_done : (i c n : ℕ) → suc c ≡ open_before flags i → i ≤ n → (i < n → get_or flags i false ≡ false)
      → get_or (choices_before w l flags behind n) c no_choice ≡ get_or (choices_before w l flags behind i) c no_choice
  choice_done i c n last within unflagged =
      le_ind (λ k. k ≤ n → choice_at k c ≡ choice_at i c) (λ h. refl)
      (λ k later so_far inside. on k later inside (get_or flags k false) refl (eqb k i) refl ∙ so_far (omega arith)) n within (omega arith)
    where
      on : (k : ℕ) → i ≤ k → suc k ≤ n → (b : Bool) → get_or flags k false ≡ b → (s : Bool) → eqb k i ≡ s → choice_at (suc k) c ≡ choice_at k c
      on k later inside false free s e = unflagged_stays k c free (omega (arith, open_rises flags i k later))
      on k later inside true up true e =
          absurd (true≢false (sym up ∙ ap (λ j. get_or flags j false) (eqb-true k i e) ∙ unflagged (omega arith)))
      on k later inside true up false e =
          let past : suc i ≤ k = omega (arith, eqb-false k i e) in
          flagged_stays k c up (omega (arith, open_unflagged flags i (unflagged (omega arith)), open_rises flags (suc i) k past))

  -- what is written in front of the first unflagged step grows by the flagged ones there
  pub start_passed : (k : ℕ) → get_or flags k false ≡ true → open_before flags k ≡ 0
      → start_before w l flags (suc k) ≡ stamped_row (start_before w l flags k) all_bits (written (action w (get_or l k 0)))
  unfolding start_before
  start_passed k up none = rw (up, none)

  -- and stays from that one on
  pub start_done : (i n : ℕ) → i ≤ n → (i < n → get_or flags i false ≡ false) → start_before w l flags n ≡ start_before w l flags i
  unfolding start_before
  start_done i n within unflagged =
      le_ind (λ k. k ≤ n → start_before w l flags k ≡ start_before w l flags i) (λ h. refl)
      (λ k later so_far inside. on k later inside (get_or flags k false) refl (eqb k i) refl ∙ so_far (omega arith)) n within (omega arith)
    where
      on : (k : ℕ) → i ≤ k → suc k ≤ n → (b : Bool) → get_or flags k false ≡ b → (s : Bool) → eqb k i ≡ s
          → start_before w l flags (suc k) ≡ start_before w l flags k
      on k later inside false free s e = rw free
      on k later inside true up true e =
          absurd (true≢false (sym up ∙ ap (λ j. get_or flags j false) (eqb-true k i e) ∙ unflagged (omega arith)))
      on k later inside true up false e =
          let past : suc i ≤ k = omega (arith, eqb-false k i e) in
          rw (up, ne_eqb (open_before flags k) 0 (omega (arith, open_unflagged flags i (unflagged (omega arith)), open_rises flags (suc i) k past)))
