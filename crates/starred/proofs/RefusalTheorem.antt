-- Each cause of refusal of the table is met, at its number and place: by computing what the checks give. Assumes nothing.
use mathlib.Core.Path.{refl}
use Rattle.refusal.specs.Place.{first_of_next, first_of, first}
use Rattle.refusal.specs.Check.{answer}
use Rattle.sas.specs.Plan.{holds, satisfies, applicable, assign, apply, written, needed, acting, unconditional, written_always}
use Rattle.reduction.specs.Reduction.{count}
use Rattle.reduction.specs.Between.Wanted.{same_fact, has}
use Rattle.sas.specs.Conflict.{some_of, differ, contradictory, conflict, conflicting}
use Rattle.reduction.specs.Landmark.{values_from, framed}
use Rattle.reduction.specs.Between.Landmarks.{sets_other, passed, trace, raised, round_to, rounds as mark_rounds, landmarks}
use Rattle.sheet.specs.Decode.{table, facts, initial, goal, action, effects}
use Rattle.sheet.specs.Causes.{bad_length, bad_edition, bad_counts, due, wrong_size, bad_pair, pair_place, bad_variable, variable_place, bad_fact, group_place, action_place, fact_place, cost_place, sheet_checks, effects_place, past_part, conflict_place}
use Rattle.plan.specs.Between.Fault.{fault}
use Rattle.plan.specs.Checked.{unknown_place, list_checks, read_checks, valid_checks, lodged_checks}
use Rattle.reduced.specs.Reduced.{room_checks}
use Rattle.landmark.specs.Marks.{marks}
use Rattle.minimal.specs.Minimised.{unmarked_checks, minimal_checks}
use Rattle.starred.specs.Rows.{Each}
use Rattle.starred.specs.Refusals.{CauseMet, causes, ListTen}
use Rattle.starred.proofs.RowLaws.{◌also◌}

pub refusals : Each CauseMet causes
unfolding answer sheet_checks bad_length bad_edition bad_counts due past_part wrong_size bad_pair pair_place bad_variable variable_place bad_fact group_place effects_place action_place fact_place cost_place conflict_place first first_of first_of_next table facts effects initial goal action fault unknown_place list_checks read_checks valid_checks lodged_checks room_checks differ contradictory conflict conflicting holds satisfies applicable assign acting apply written needed count some_of same_fact has values_from framed unconditional written_always sets_other passed trace raised round_to mark_rounds landmarks marks unmarked_checks minimal_checks
refusals = refl also refl also refl also refl also refl also refl also refl also refl also refl also refl also refl also refl also tt

-- and of the worked list 10, 19 and 20 lamps are answered
pub list_ten : ListTen
unfolding answer sheet_checks bad_length bad_edition bad_counts due past_part wrong_size bad_pair pair_place bad_variable variable_place bad_fact group_place effects_place action_place fact_place cost_place conflict_place first first_of first_of_next table facts effects initial goal action fault unknown_place list_checks read_checks valid_checks lodged_checks room_checks differ contradictory conflict conflicting holds satisfies applicable assign acting apply written needed count some_of same_fact has values_from framed unconditional written_always sets_other passed trace raised round_to mark_rounds landmarks marks unmarked_checks minimal_checks
list_ten = ((refl, refl), (refl, refl))
