-- What sheets of edition 2 mean and are answered, computed from their words. Assumes nothing.
use mathlib.Core.Path.{◌≡◌, refl}
use mathlib.Core.List.{[], ◌∷◌}
use Rattle.refusal.specs.Place.{first_of_next, first_of, first}
use Rattle.refusal.specs.Check.{answer}
use Rattle.sas.specs.Plan.{holds, satisfies, acting, assign, apply}
use Rattle.sas.specs.Conflict.{some_of, differ, contradictory, conflict, conflicting}
use Rattle.sheet.specs.Decode.{table, facts, effect_words, effect_at, effects, action}
use Rattle.sheet.specs.Causes.{bad_counts, due, runs_past, past_part, wrong_size, bad_pair, pair_place, bad_variable, variable_place, bad_fact, group_place, bad_effect, effect_place, first_in, effects_place, action_place, fact_place, cost_place, conflict_place, sheet_checks}
use Rattle.starred.specs.Rows.{Each}
use Rattle.starred.proofs.RowLaws.{◌also◌}
use Rattle.starred.specs.Conditions.{flap, rows, RowAnswered}

-- the flap's one action: with no precondition, and one effect, whose condition is that the pond is high
pub flap_means : action flap 0 ≡ record {
  precondition = [];
  effects = record { condition = record { variable = 1; value = 1 } ∷ []; fact = record { variable = 0; value = 1 } } ∷ [];
  cost = 3;
}
unfolding action effects effect_words effect_at facts table
flap_means = refl

-- it closes the flap where the pond is high, and leaves it where it is low
pub flap_closes : apply (0 ∷ 1 ∷ []) (action flap 0) ≡ 1 ∷ 1 ∷ []
unfolding action effects effect_words effect_at facts table apply acting satisfies holds assign
flap_closes = refl

pub flap_stays : apply (0 ∷ 0 ∷ []) (action flap 0) ≡ 0 ∷ 0 ∷ []
unfolding action effects effect_words effect_at facts table apply acting satisfies holds assign
flap_stays = refl

pub rows_answered : Each RowAnswered rows
unfolding answer sheet_checks bad_counts due runs_past past_part wrong_size bad_pair pair_place bad_variable variable_place bad_fact group_place bad_effect effect_place first_in effects_place action_place fact_place cost_place conflict_place first first_of first_of_next table facts effect_words effect_at effects action some_of differ contradictory conflict conflicting
rows_answered = refl also refl also refl also refl also refl also refl also refl also refl also refl also refl also refl also tt
