-- A list of each claim: what is said of it holds, by computing what the definitions give from the words of its sheet. Assumes nothing.
use Prim.Native.Nat.{ℕ, zero, suc, ◌<◌}
use native.Mathlib.Omega.{arith}
use mathlib.Core.Path.{◌≡◌, refl, ◌∙◌, ap, subst}
use mathlib.Core.Bool.{true, false}
use mathlib.Core.Option.{none}
use mathlib.Core.List.{[], ◌∷◌, ◌++◌}
use lib.ListN.{length, replicate}
use Rattle.refusal.specs.Place.{first_of_next, first_of, first}
use Rattle.refusal.specs.Check.{answer}
use Rattle.sas.specs.Plan.{holds, satisfies, applicable, assign, apply, written, needed, result, run, cost, acting, unconditional, written_always}
use Rattle.reduction.specs.Reduction.{Reduction, keeps, kept, count, compose, valid_for}
use Rattle.reduction.specs.Between.Order.{lower}
use Rattle.reduction.specs.Between.Elimination.{trial, eliminated, eliminate, better, best, rounds, greedy}
use Rattle.reduction.specs.Trials.{walk, after}
use Rattle.reduction.specs.Between.Wanted.{same_fact, has}
use Rattle.sas.specs.Conflict.{some_of, differ, contradictory, conflict, conflicting}
use Rattle.reduction.specs.Landmark.{values_from, framed}
use Rattle.reduction.specs.Between.Landmarks.{sets_other, passed, trace, raised, round_to, rounds as mark_rounds, landmarks}
use Rattle.reduction.specs.Between.Found.{found, minimal}
use Rattle.tally.specs.Tally.{comparison}
use Rattle.sheet.specs.Decode.{table, facts, initial, goal, action, effects}
use Rattle.sheet.specs.Causes.{bad_length, bad_edition, bad_counts, due, wrong_size, bad_pair, pair_place, bad_variable, variable_place, bad_fact, group_place, action_place, fact_place, cost_place, sheet_checks, effects_place, past_part, conflict_place}
use Rattle.plan.specs.Between.Fault.{fault}
use Rattle.plan.specs.Checked.{unknown_place, list_checks, read_checks, valid_checks, lodged_checks, plan_checks}
use Rattle.plan.proofs.PlanTheorem.{passes_exactly}
use Rattle.reduced.specs.Reduced.{tally_left}
use Rattle.landmark.specs.Marks.{marks, unmarked}
use Rattle.landmark.proofs.MarkTheorem.{marks_theorem}
use Rattle.cheaper.specs.Between.Computed.{cheaper_of}
use Rattle.minimal.specs.Between.Computed.{minimal_of}
use Rattle.claim.specs.declared.answer.Claim.TheVariants.{Irreducible}
use Rattle.claim.specs.Between.Computed.{claim_of, claimed_by, licensed_of, cheaper_list}
use Rattle.claim.specs.Statement.{Licence, AllMarked}
use Rattle.cheaper.proofs.CheaperLaws.{cheaper_so}
use Rattle.minimal.proofs.DemandThree.{valid_list}
use Rattle.claim.proofs.LicenceTheorem.{licence_of, marked_is_whole}
use Rattle.starred.specs.Sheets.{sheet_p}
use Rattle.starred.specs.Rounds.{list_3}
use Rattle.starred.specs.Licences.{LicenceRow, RowLicensed, gates_and_lamp, lamps_between, least_row, irreducible_row, open_row, LicencesHold, List3Whole}
use Rattle.starred.proofs.RowLaws.{◌also◌, positions_from, kept_just}

-- a reduction that is known is licensed where it keeps these positions at this price
licensed : (r : LicenceRow) (m : Reduction) → answer (plan_checks r.sheet r.list) ≡ none → length (cheaper_list r.sheet r.list) ≡ r.eliminated
    → unmarked r.sheet (cheaper_list r.sheet r.list) ≡ r.others → claim_of r.sheet r.list ≡ r.claim → licensed_of r.sheet r.list ≡ m
    → positions_from 1 m ≡ r.positions → tally_left r.sheet r.list m ≡ record { cost = r.price; steps = length r.positions } → RowLicensed r
licensed r m passes left others claims is positions tally =
    let (readable, plan) = (passes_exactly r.sheet r.list).0 passes in
    record {
      readable = readable;
      plan = plan;
      cheaper = cheaper_of r.sheet r.list;
      by_cheaper = cheaper_so r.sheet r.list (valid_list r.sheet r.list readable plan);
      cheaper_left = left;
      unmarked_there = others;
      left = m;
      licence = subst (λ c. Licence r.sheet r.list c m) claims (subst (λ n. Licence r.sheet r.list (claim_of r.sheet r.list) n) is (licence_of r.sheet r.list readable plan));
      just = rw (← positions) (kept_just m);
      tally = tally;
    }

least : RowLicensed least_row
unfolding answer sheet_checks bad_length bad_edition bad_counts due past_part wrong_size bad_pair pair_place bad_variable variable_place bad_fact group_place effects_place action_place fact_place cost_place conflict_place first first_of first_of_next table facts effects initial goal action fault unknown_place list_checks read_checks valid_checks lodged_checks differ contradictory conflict conflicting holds satisfies applicable assign acting apply written needed result run cost kept count compose valid_for lower walk after trial eliminated eliminate better best rounds greedy found minimal some_of same_fact has values_from framed unconditional written_always sets_other passed trace raised round_to mark_rounds landmarks marks comparison cheaper_of claim_of positions_from
least = licensed least_row (false ∷ false ∷ false ∷ []) refl refl refl refl refl refl refl

-- what the cheaper elimination leaves of the lamps
abbrev gates_left : Reduction
gates_left = replicate 9 false ++ (true ∷ true ∷ true ∷ replicate 9 false) ++ (true ∷ true ∷ true ∷ [])

gates_eliminated : cheaper_of gates_and_lamp lamps_between ≡ gates_left
unfolding answer sheet_checks bad_length bad_edition bad_counts due past_part wrong_size bad_pair pair_place bad_variable variable_place bad_fact group_place effects_place action_place fact_place cost_place conflict_place first first_of first_of_next table facts effects initial goal action fault unknown_place list_checks read_checks valid_checks lodged_checks differ contradictory conflict conflicting holds satisfies applicable assign acting apply written needed result run cost kept count compose valid_for lower walk after trial eliminated eliminate better best rounds greedy found minimal some_of same_fact has values_from framed unconditional written_always sets_other passed trace raised round_to mark_rounds landmarks marks comparison cheaper_of claim_of positions_from
gates_eliminated = refl

irreducible : RowLicensed irreducible_row
unfolding answer sheet_checks bad_length bad_edition bad_counts due past_part wrong_size bad_pair pair_place bad_variable variable_place bad_fact group_place effects_place action_place fact_place cost_place conflict_place first first_of first_of_next table facts effects initial goal action fault unknown_place list_checks read_checks valid_checks lodged_checks differ contradictory conflict conflicting holds satisfies applicable assign acting apply written needed result run cost kept count compose valid_for lower walk after trial eliminated eliminate better best rounds greedy found minimal some_of same_fact has values_from framed unconditional written_always sets_other passed trace raised round_to mark_rounds landmarks marks comparison cheaper_of claim_of positions_from
irreducible = licensed irreducible_row (compose gates_left (false ∷ false ∷ false ∷ true ∷ true ∷ true ∷ [])) refl refl refl claims is refl refl
  where
    claims : claim_of gates_and_lamp lamps_between ≡ Irreducible
    claims = refl

    is : licensed_of gates_and_lamp lamps_between ≡ compose gates_left (false ∷ false ∷ false ∷ true ∷ true ∷ true ∷ [])
    is = ap (λ c. claimed_by c gates_and_lamp lamps_between) claims ∙ ap (λ c. compose c (minimal_of gates_and_lamp (kept c lamps_between))) gates_eliminated

still_open : RowLicensed open_row
unfolding answer sheet_checks bad_length bad_edition bad_counts due past_part wrong_size bad_pair pair_place bad_variable variable_place bad_fact group_place effects_place action_place fact_place cost_place conflict_place first first_of first_of_next table facts effects initial goal action fault unknown_place list_checks read_checks valid_checks lodged_checks differ contradictory conflict conflicting holds satisfies applicable assign acting apply written needed result run cost kept count compose valid_for lower walk after trial eliminated eliminate better best rounds greedy found minimal some_of same_fact has values_from framed unconditional written_always sets_other passed trace raised round_to mark_rounds landmarks marks comparison cheaper_of claim_of positions_from
still_open = licensed open_row (replicate 21 true) refl refl refl refl refl refl refl

pub licences : LicencesHold
licences = least also irreducible also still_open also tt

-- the theorem of lists whose steps are all marked has a list to speak of
list_3_marked : (i : ℕ) → i < 3 → keeps (marks sheet_p list_3) i
unfolding table facts initial goal effects action written needed some_of same_fact has values_from framed unconditional written_always sets_other passed trace raised round_to mark_rounds landmarks marks
list_3_marked zero h = refl
list_3_marked (suc zero) h = refl
list_3_marked (suc (suc zero)) h = refl
list_3_marked (suc (suc (suc i))) h = absurd (omega arith)

list_3_passes : answer (plan_checks sheet_p list_3) ≡ none
unfolding answer sheet_checks bad_length bad_edition bad_counts due past_part wrong_size bad_pair pair_place bad_variable variable_place bad_fact group_place effects_place action_place fact_place cost_place conflict_place first first_of first_of_next table facts effects initial goal action fault unknown_place list_checks read_checks valid_checks lodged_checks some_of differ contradictory conflict conflicting holds satisfies applicable assign acting apply result run
list_3_passes = refl

pub list_3_whole : List3Whole
list_3_whole =
    let (readable, plan) = (passes_exactly sheet_p list_3).0 list_3_passes in
    let marked : AllMarked sheet_p list_3 = λ i inside. (marks_theorem sheet_p list_3 i).0 (list_3_marked i inside) in
    (marked, marked_is_whole sheet_p list_3 readable plan marked)
