-- The search from the starting values: its tests are sound, it begins with the flagged steps kept and the lodged plan as the best, and so it finds the minimal
-- reduction. What the code calls is a variable here, with what is known of it as a premise. Assumes nothing.
use Prim.Native.Nat.{ℕ, ◌+◌, ◌-◌, ◌*◌, ◌%◌, ◌^◌, ◌≤◌, ◌<◌}
use native.Mathlib.Nat.{one-mul}
use native.Mathlib.Numerals.{add-one}
use native.Mathlib.Omega.{arith}
use mathlib.Core.Path.{◌≡◌, refl, sym, ◌∙◌, ap}
use mathlib.Core.Bool.{Bool, true, false, false≢true}
use mathlib.Core.List.{List}
use lib.ListN.{length, take, length-replicate, length-map, get_or-replicate, get_or-eq_default}
use lib.Pow.{shl_exact, pow_pos}
use lib.Dec.{ltb}
use borrow.Author.Tests.{ltb-true, ltb-false}
use Rattle.reduction.specs.Reduction.{Reduction, keeps, whole, meets, ValidFor}
use Rattle.reduction.specs.Between.Order.{Contains}
use Rattle.reduction.specs.Between.Found.{minimal}
use Rattle.reduction.specs.Between.Search.{Visit, first_visit}
use Rattle.reduction.specs.Between.Cuts.{tests}
use Rattle.reduction.proofs.minimal.MinimalTheorem.{minimal_found}
use Rattle.reduction.proofs.turns.TurnLaws.{search_turns}
use Rattle.reduction.proofs.turns.UseLaws.{tests_sound}
use Rattle.reduction.proofs.turns.CourseLaws.{course_begins}
use Rattle.reduction.proofs.turns.SearchTheorem.{search_finds}
use Rattle.tally.specs.declared.Tally.{Tally}
use Rattle.sheet.specs.Decode.{domains, initial, goal, action}
use Rattle.step.specs.State.{in_array}
use Rattle.plan.specs.Limits.{most_steps}
use Rattle.plan.specs.Valid.{steps}
use Rattle.fact_bits.specs.declared.bits.Behind.{Behind}
use Rattle.fact_bits.specs.Between.Bits.{ToldBehind}
use Rattle.reduced.specs.Reduced.{tally_left}
use Rattle.reduced.specs.Between.Tallied.{tallied}
use Rattle.packed_state.specs.Between.Chosen.{most_choices, open_before, chosen}
use Rattle.packed_state.specs.Between.Packed.{written_over, packed_start}
use Rattle.choice_rows.specs.declared.rows.Choice.{Choice}
use Rattle.choice_rows.specs.Between.Rows.{PlanChoices, start_before, ChoicesTold}
use Rattle.packed_state.proofs.ChosenLaws.{chosen_stays, chosen_all}
use Rattle.choice_rows.proofs.ChoiceLaws.{choices_long}
use Rattle.choice_rows.proofs.RowTheorem.{start_row_writes}
use Rattle.turns.specs.declared.chosen.Chosen.{Chosen}
use Rattle.turns.specs.Between.Told.{Chooses, Lent, LentRows, Begins, Finds}
use Rattle.turns.specs.Between.Unpacked.{Unpacks}
use Rattle.turns.proofs.SoFarLaws.{tally_told}
use Rattle.search.proofs.UnpackLaws.{unpacked_same}
use Rattle.turns.proofs.TurnsLaws.{all_plain, starts_sized, flags_fit, ComesTo, comes_to, BothTold}

-- the choices that keep all unflagged steps
module _ (count : ℕ) (few : count ≤ most_choices) where
  shifted : 1 * 2 ^ (count + 1) % 2 ^ 64 ≡ 2 ^ (count + 1)
  shifted = shl_exact 1 (count + 1) 64 (omega arith) (omega arith) ∙ one-mul (2 ^ (count + 1))

  pub some_bit : 1 ≤ 1 * 2 ^ (count + 1) % 2 ^ 64
  some_bit = rw shifted (pow_pos (count + 1))

  pub all_ones : 1 * 2 ^ (count + 1) % 2 ^ 64 - 1 ≡ 2 ^ (count + 1) - 1
  all_ones = rw shifted

-- every flagged step is one of the plan
whole_contains : (l : List ℕ) (flags : Reduction) → length flags ≡ length l → Contains (whole l) flags
whole_contains l flags fits k up = by_case (ltb k (length l)) refl
  where
    by_case : (b : Bool) → ltb k (length l) ≡ b → keeps (whole l) k
    by_case true e = get_or-replicate (length l) k true false (ltb-true k (length l) e)
    by_case false e =
        absurd (false≢true (sym (get_or-eq_default flags false {n = k} (omega (arith, fits, ltb-false k (length l) e))) ∙ up))

module _ (w l : List ℕ) (flags : Reduction) (lent : Lent w l flags) where
  -- what the search begins with
  flags_chosen : (c : Chosen) → c.tally ≡ tallied w l flags → c.bits ≡ 1 → Chooses w l flags flags c
  unfolding chosen
  flags_chosen c counts one =
      record {
        fits = lent.fits;
        flagged = λ k up. up;
        counted = tally_told w l flags c.tally counts lent.readable lent.fits;
        told_by = one ∙ sym (chosen_stays flags flags 0 (length l) (omega arith) (λ k above below. refl));
      }

  whole_chosen : (c : Chosen) → c.tally ≡ tally_left w l (whole l) → c.bits ≡ 2 ^ (open_before flags (length l) + 1) - 1 → Chooses w l flags (whole l) c
  whole_chosen c counts ones =
      record {
        fits = length-replicate (length l) true;
        flagged = whole_contains l flags lent.fits;
        counted = counts;
        told_by = ones ∙ rw add-one (sym (chosen_all flags (whole l) (length l) (λ k h. get_or-replicate (length l) k true false h)));
      }

  -- the minimal reduction is as long as the list and keeps the flagged steps
  minimal_valid : ValidFor (meets (goal w)) (initial w) (steps w l) (minimal (meets (goal w)) (initial w) (steps w l))
  minimal_valid = (minimal_found (meets (goal w)) (initial w) (steps w l) lent.valid).valid

  -- and the search finds it
  found_chosen : {choices : List Choice} → LentRows w l flags choices → (kept whole_plan after : Chosen) → Chooses w l flags flags kept
      → Chooses w l flags (whole l) whole_plan → BothTold choices 0 (written_over (start_before w l flags (length l)) (packed_start (in_array (initial w)))) kept whole_plan after
      → Chooses w l flags (minimal (meets (goal w)) (initial w) (steps w l)) after
  unfolding open_before
  found_chosen rows kept whole_plan after begins lodged both =
      let first : Visit = first_visit (tests (goal w) (steps w l) flags) (initial w) (steps w l) in
      let course = course_begins (goal w) (initial w) (steps w l) flags (domains w) (all_plain w l flags lent) (starts_sized w l flags lent) lent.valid lent.flagged
      (flags_fit w l flags lent) in
      let comes : ComesTo w l flags lent first 0 = comes_to w l flags lent first 0 (omega arith) refl course in
      let whole_steps : whole (steps w l) ≡ whole l = rw length-map in
      rw (
        ← search_finds (tests (goal w) (steps w l) flags) (initial w) (steps w l)
            (tests_sound (goal w) lent.flagged (flags_fit w l flags lent) (all_plain w l flags lent)),
        search_turns,
        comes.turned,
      )
      (both.tells w l flags rows comes.at comes.choice comes.course
      (rw comes.so_far
      (start_row_writes w l flags rows.behind lent.readable (all_plain w l flags lent) flags comes.at.index comes.next
      (λ k below. comes.next.passed k (omega arith) below)))
      (rw comes.so_far begins) (rw (comes.best, whole_steps) lodged))

module _ (w l : List ℕ) (flags : Reduction) (behind : List Behind) (lodged : Tally) where
  pub begins : ToldBehind w l flags behind → (choices : PlanChoices) → ChoicesTold w l flags behind choices
      → (start state : List ℕ) → start ≡ packed_start (in_array (initial w)) → state ≡ written_over choices.start start
      → (kept whole_plan after : Chosen) → kept.tally ≡ tallied w l flags → kept.bits ≡ 1 → whole_plan.tally ≡ lodged
      → whole_plan.bits ≡ 2 ^ (length choices.steps + 1) - 1 → BothTold choices.steps 0 state kept whole_plan after → Begins w l flags lodged after.bits
  begins told choices noted start state starts writes kept whole_plan after counts one whole_counts ones both =
      record {
        found = λ lent tallies.
            let rows : LentRows w l flags choices.steps = record { lent = lent; behind = behind; told = told; filled = noted.filled } in
            let count : length choices.steps ≡ open_before flags (length l) = rw noted.filled (choices_long w l flags behind (length l)) in
            (found_chosen w l flags lent rows kept whole_plan after (flags_chosen w l flags lent kept counts one)
            (whole_chosen w l flags lent whole_plan (whole_counts ∙ tallies) (rw count at ones)) (rw (writes, starts, noted.started) at both)).told_by;
      }

  -- too many unflagged steps are not lent
  pub too_many : (bits : ℕ) → most_choices < open_before flags (length l) → Begins w l flags lodged bits
  too_many bits many = record { found = λ lent tallies. absurd (omega (arith, lent.few)) }

-- what is unpacked of the choices found
pub finds : (w l : List ℕ) (flags kept : Reduction) (lodged : Tally) (bits : ℕ) → Begins w l flags lodged bits → Unpacks flags bits kept → Finds w l flags lodged kept
finds w l flags kept lodged bits begun unpacks =
    record {
      sized = unpacks.sized;
      leaves = λ lent tallies.
          let m : Reduction = minimal (meets (goal w)) (initial w) (steps w l) in
          let valid = minimal_valid w l flags lent in
          let few : length l ≤ most_steps = lent.readable.few in
          let long : length m ≡ length l = valid.fits ∙ length-map l (action w) in
          let same : take (length l) kept ≡ m =
          unpacked_same flags m kept bits (length l) unpacks few lent.fits long (lent.flagged m valid) lent.few (begun.found lent tallies) in
          record { within = omega (arith, unpacks.sized); fits = ap length same ∙ long; same = same };
    }
