-- `check_parts` meets its contract: each check that passed leaves the rest of the list, and the first that fires answers. Assumes nothing.
use Rattle.std.specs.Prelude.{None}
use Prim.Native.Nat.{ℕ}
use mathlib.Core.List.{List}
use lib.ListN.{drop}
use mathlib.Core.Path.{◌≡◌, sym, ◌∙◌}
use Rattle.refusal.specs.Check.{answer}
use Rattle.refusal.proofs.CheckLaws.{answer_nothing, answer_fires, answer_passes}
use Rattle.sheet.specs.Causes.{pair_place, variable_place, fact_place, cost_place, sheet_checks}
use Rattle.sheet_check.proofs.CountLaws.{variables_few}
use Rattle.sheet_check.proofs.check.check_parts.Goals as goal

-- what is left to check once a check has passed
past_pair : (w : List ℕ) → pair_place w ≡ None → answer (drop 3 (sheet_checks w)) ≡ answer (drop 4 (sheet_checks w))
unfolding sheet_checks
past_pair w none = answer_passes _ _ none

past_variable : (w : List ℕ) → pair_place w ≡ None → variable_place w ≡ None → answer (drop 3 (sheet_checks w)) ≡ answer (drop 5 (sheet_checks w))
unfolding sheet_checks
past_variable w pair none = past_pair w pair ∙ answer_passes _ _ none

past_fact : (w : List ℕ) → pair_place w ≡ None → variable_place w ≡ None → fact_place w ≡ None
    → answer (drop 3 (sheet_checks w)) ≡ answer (drop 6 (sheet_checks w))
unfolding sheet_checks
past_fact w pair variable none = past_variable w pair variable ∙ answer_passes _ _ none

past_cost : (w : List ℕ) → pair_place w ≡ None → variable_place w ≡ None → fact_place w ≡ None → cost_place w ≡ None
    → answer (drop 3 (sheet_checks w)) ≡ answer (drop 7 (sheet_checks w))
unfolding sheet_checks
past_cost w pair variable fact none = past_fact w pair variable fact ∙ answer_passes _ _ none

pub returns-in-Some : goal.returns-in-Some
unfolding sheet_checks
returns-in-Some c = sym (answer_fires _ _ _ (sym c.bad_pair_place-pair.ensures ∙ c.in-Some.is))

pub returns-in-Some-variable : goal.returns-in-Some-variable
unfolding sheet_checks
returns-in-Some-variable c =
    sym (past_pair _ (sym c.bad_pair_place-pair.ensures ∙ c.in_default.is)
    ∙ answer_fires _ _ _ (sym c.bad_variable_place-variable.ensures ∙ c.in-Some-variable.is))

pub returns-in-Some-fact : goal.returns-in-Some-fact
unfolding sheet_checks
returns-in-Some-fact c =
    sym (past_variable _ (sym c.bad_pair_place-pair.ensures ∙ c.in_default.is)
    (sym c.bad_variable_place-variable.ensures ∙ c.in_default-variable.is)
    ∙ answer_fires _ _ _ (sym c.bad_fact_place-fact.ensures ∙ c.in-Some-fact.is))

pub returns-in-Some-cost : goal.returns-in-Some-cost
unfolding sheet_checks
returns-in-Some-cost c =
    sym (past_fact _ (sym c.bad_pair_place-pair.ensures ∙ c.in_default.is)
    (sym c.bad_variable_place-variable.ensures ∙ c.in_default-variable.is)
    (sym c.bad_fact_place-fact.ensures ∙ c.in_default-fact.is)
    ∙ answer_fires _ _ _ (sym c.bad_cost_place-cost.ensures ∙ c.in-Some-cost.is))

pub returns-in-Some-conflict : goal.returns-in-Some-conflict
unfolding sheet_checks
returns-in-Some-conflict c =
    let fact = sym c.bad_fact_place-fact.ensures ∙ c.in_default-fact.is in
    let conflict = c.conflict_place-conflict.ensures.told fact (variables_few _ c.requires) in
    sym (past_cost _ (sym c.bad_pair_place-pair.ensures ∙ c.in_default.is)
    (sym c.bad_variable_place-variable.ensures ∙ c.in_default-variable.is)
    fact
    (sym c.bad_cost_place-cost.ensures ∙ c.in_default-cost.is)
    ∙ answer_fires _ _ _ (sym conflict ∙ c.in-Some-conflict.is))

pub returns : goal.returns
unfolding sheet_checks
returns c =
    let fact = sym c.bad_fact_place-fact.ensures ∙ c.in_default-fact.is in
    let conflict = c.conflict_place-conflict.ensures.told fact (variables_few _ c.requires) in
    sym (past_cost _ (sym c.bad_pair_place-pair.ensures ∙ c.in_default.is)
    (sym c.bad_variable_place-variable.ensures ∙ c.in_default-variable.is)
    fact
    (sym c.bad_cost_place-cost.ensures ∙ c.in_default-cost.is)
    ∙ answer_passes _ _ (sym conflict ∙ c.in_default-conflict.is)
    ∙ answer_nothing)
