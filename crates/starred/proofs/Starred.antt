-- The worked lists of document 01 that carry a star: what it says of each holds. By computing what the definitions give from the words of the sheets; what is
-- told by a rule follows by the theorem that ties the rule to what is computed: `passes_exactly` for plans, `first_failing` for lists that are none,
-- `marks_theorem` for marks, `rule_leaves` for the eliminations, `minimal_found` for the minimal reduction. Assumes nothing.
use Prim.Native.Nat.{◌<◌, ℕ, zero, suc}
use Rattle.minimal.specs.Between.Computed.{minimal_of}
use native.Mathlib.Omega.{arith}
use mathlib.Core.Path.{◌≡◌, refl}
use mathlib.Core.Logic.{inl, inr, ⊎_elim}
use mathlib.Core.Bool.{true, false, false≢true}
use mathlib.Core.Option.{none, some}
use mathlib.Core.List.{List, [], ◌∷◌}
use lib.ListN.{get_or, length}
use Rattle.refusal.specs.Place.{first_of_next, first_of, first}
use Rattle.refusal.specs.Check.{answer}
use Rattle.sas.specs.Plan.{holds, satisfies, applicable, assign, apply, written, needed, result, run, cost, acting, unconditional, written_always}
use Rattle.reduction.specs.Reduction.{Reduction, kept, count, valid_for, valid, meets}
use Rattle.reduction.specs.Between.Order.{lower}
use Rattle.reduction.specs.Between.Elimination.{trial, eliminated, eliminate, better, best, rounds, greedy}
use Rattle.reduction.specs.Trials.{walk, after}
use Rattle.reduction.specs.Between.Wanted.{same_fact, has}
use Rattle.sas.specs.Conflict.{some_of, differ, contradictory, conflict, conflicting}
use Rattle.reduction.specs.Landmark.{values_from, framed}
use Rattle.reduction.specs.Between.Landmarks.{sets_other, passed, trace, raised, round_to, rounds as mark_rounds, landmarks}
use Rattle.reduction.specs.Between.Found.{found, minimal}
use Rattle.reduction.proofs.minimal.MinimalTheorem.{minimal_found}
use Rattle.mask.specs.Mask.{binary, words_of, mask_words}
use Rattle.sheet.specs.Decode.{table, facts, initial, goal, action, effects}
use Rattle.sheet.specs.Causes.{bad_length, bad_edition, bad_counts, due, wrong_size, bad_pair, pair_place, bad_variable, variable_place, bad_fact, group_place, action_place, fact_place, cost_place, sheet_checks, effects_place, past_part, conflict_place}
use Rattle.plan.specs.Limits.{most_steps}
use Rattle.plan.specs.Valid.{steps}
use Rattle.plan.specs.Between.Fault.{fault}
use Rattle.plan.specs.Checked.{unknown_place, list_checks, read_checks, valid_checks, lodged_checks, plan_checks, lodged_tally}
use Rattle.plan.proofs.PlanLaws.{read_readable}
use Rattle.plan.proofs.PlanTheorem.{plan_theorem, passes_exactly}
use Rattle.reduced.specs.Reduced.{room_checks, tally_left}
use Rattle.landmark.specs.Marks.{marks}
use Rattle.landmark.proofs.MarkTheorem.{marks_theorem}
use Rattle.elimination.specs.declared.single.Elimination.TheVariants.{Plain, Greedy}
use Rattle.elimination.proofs.LeavesLaws.{rule_leaves}
use Rattle.minimal.specs.Minimised.{unmarked_checks, minimal_checks}
use Rattle.minimal.specs.Statement.{IsMarked}
use Rattle.starred.specs.Sheets.{sheet_p, gate_alone, two_writers, one_for_both}
use Rattle.starred.specs.Rows.{Way, Each, JustAt, struck_by, checks_of, ByRule, KeepsAt, Loses, Holds, RowHolds, list_1, starred_rows}
use Rattle.starred.specs.Rows.Way.{elimination, greedily, minimally}
use Rattle.starred.specs.Rows.Saying.{valid_at, refused_at}
use Rattle.starred.proofs.RowLaws.{◌also◌, positions_from, kept_just}

module _ (w l : List ℕ) where
  valid_truly : {price n : ℕ} → answer (plan_checks w l) ≡ none → lodged_tally w l ≡ record { cost = price; steps = n } → Holds w l (valid_at price n)
  valid_truly passed tally = (passed, ((passes_exactly w l).0 passed).1, tally)

  refused_truly : {k : ℕ} → answer (read_checks most_steps w l) ≡ none → answer (plan_checks w l) ≡ some (record { number = 11; place = k })
      → Holds w l (refused_at k)
  refused_truly read told = (
    told,
    ⊎_elim
        (λ stuck. inl stuck)
        (λ (past, unmet). inr (unmet.end, unmet.reached, unmet.goal_fails, past))
        (((plan_theorem w l (read_readable most_steps w l read)).first_failing _).0 told).1,
  )

  marks_just : JustAt (positions_from 1 (marks w l)) (IsMarked w l)
  marks_just i =
      let (to, from) = marks_theorem w l i in
      let (listed, flagged) = kept_just (marks w l) i in
      (λ m. listed (from m), λ d. to (flagged d))

  way_by_rule : (way : Way) → valid (initial w) (goal w) (steps w l) ≡ true → ByRule w l way
  way_by_rule elimination v = rule_leaves w l v Plain
  way_by_rule greedily v = rule_leaves w l v Greedy
  way_by_rule minimally v = minimal_found (meets (goal w)) (initial w) (steps w l) v

  kept_by : {price : ℕ} {words : List ℕ} (way : Way) → answer (checks_of w l way) ≡ none → valid (initial w) (goal w) (steps w l) ≡ true
      → tally_left w l (struck_by w l way) ≡ record { cost = price; steps = length (positions_from 1 (struck_by w l way)) } → mask_words (struck_by w l way) ≡ words
      → KeepsAt w l (positions_from 1 (struck_by w l way)) price words way
  kept_by way answers v tally mask =
      record { answers = answers; by_rule = way_by_rule way v; just = kept_just (struck_by w l way); tally = tally; mask = mask }

-- what document 01 says of each list holds
pub starred : Each RowHolds starred_rows
unfolding answer sheet_checks bad_length bad_edition bad_counts due past_part wrong_size bad_pair pair_place bad_variable variable_place bad_fact group_place effects_place action_place fact_place cost_place conflict_place first first_of first_of_next table facts effects initial goal action fault unknown_place list_checks read_checks valid_checks lodged_checks room_checks unmarked_checks minimal_checks differ contradictory conflict conflicting holds satisfies applicable assign acting apply written needed result run cost kept count valid_for lower walk after trial eliminated eliminate better best rounds greedy found minimal some_of same_fact has values_from framed unconditional written_always sets_other passed trace raised round_to mark_rounds landmarks marks positions_from binary words_of mask_words
starred =
    (refl, valid_truly sheet_p list_1 refl refl)
    also (refl, (marks_just sheet_p list_1, refl))
    also (
      refl,
      kept_by sheet_p list_1 elimination refl refl refl refl
          also kept_by sheet_p list_1 greedily refl refl refl refl
          also kept_by sheet_p list_1 minimally refl refl refl refl
          also tt,
    )
    also (refl, (keeps_2_5_6, 1, refl, lost))
    also (refl, (marks_just sheet_p (0 ∷ 1 ∷ 2 ∷ []), refl))
    also (
      refl,
      kept_by sheet_p (0 ∷ 1 ∷ 2 ∷ []) elimination refl refl refl refl
          also kept_by sheet_p (0 ∷ 1 ∷ 2 ∷ []) greedily refl refl refl refl
          also kept_by sheet_p (0 ∷ 1 ∷ 2 ∷ []) minimally refl refl refl refl
          also tt,
    )
    also (refl, refused_truly sheet_p [] refl refl)
    also (refl, refused_truly sheet_p (0 ∷ 0 ∷ []) refl refl)
    also (refl, refused_truly sheet_p (0 ∷ 1 ∷ []) refl refl)
    also (refl, kept_by two_writers (0 ∷ 1 ∷ []) elimination refl refl refl refl also tt)
    also (refl, kept_by two_writers (0 ∷ 1 ∷ []) greedily refl refl refl refl also kept_by two_writers (0 ∷ 1 ∷ []) minimally refl refl refl refl also tt)
    also (refl, kept_by one_for_both (0 ∷ 1 ∷ 2 ∷ []) greedily refl refl refl refl also tt)
    also (refl, kept_by one_for_both (0 ∷ 1 ∷ 2 ∷ []) minimally refl refl refl refl also tt)
    also (
      refl,
      kept_by gate_alone (0 ∷ 2 ∷ []) elimination refl refl refl refl
          also kept_by gate_alone (0 ∷ 2 ∷ []) greedily refl refl refl refl
          also kept_by gate_alone (0 ∷ 2 ∷ []) minimally refl refl refl refl
          also tt,
    )
    also tt
  where
    keeps_2_5_6 : Reduction
    keeps_2_5_6 = false ∷ true ∷ false ∷ false ∷ true ∷ true ∷ []

    lost : Loses sheet_p list_1 (2 ∷ 5 ∷ 6 ∷ []) 12 keeps_2_5_6 1
    lost =
        record {
          just = kept_just keeps_2_5_6;
          valid = record { fits = refl; valid_left = refl };
          tally = refl;
          as_low = refl;
          difference = record { before = λ k. elim k as (λ k. k < 1 → get_or (minimal_of sheet_p list_1) k false ≡ get_or keeps_2_5_6 k false) [ zero ↦ λ less. refl | suc k ↦ λ less. absurd (omega arith) ]; here = false≢true };
          kept_there = refl;
        }
