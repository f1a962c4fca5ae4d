-- Which numbers say how often lines follow, and are kept or not. Assumes nothing.
use mathlib.Core.Path.{◌≡◌, refl}
use mathlib.Core.Bool.{Bool, true, false}
use mathlib.Core.List.{List, [], ◌∷◌}
use Prim.Native.Nat.{ℕ}
use Rattle.form.specs.Between.Form.{Count, Counted, Variables, Values, Groups, GroupFacts, Facts, Operators, Effects, Axioms, Conditions}
use Rattle.form.specs.Between.Form.{name, numbers, Effect, numbers_fit, row_keeps, row_bars, times, group_lines, operator_lines, axiom_lines, after_variables, after_count}
use Rattle.number_rows.specs.Between.Rows.{PlainRow, fact_row}
use Rattle.text_sections.specs.Between.Sections.{Counts}

plain_count : (keeps : Bool) (what : Counted) → row_keeps (Count what) ≡ keeps → ((xs : List ℕ) → row_bars (Count what) xs ≡ false) → PlainRow keeps (Count what)
unfolding numbers_fit
plain_count keeps what kept passes = record { fits = λ xs. refl; kept = kept; passes = passes }

pub plain_variables : PlainRow true (Count Variables)
plain_variables = plain_count true Variables refl (λ xs. refl)

pub counted_values : Counts true Values (name ∷ [])
unfolding after_count
counted_values = record { plain_count = plain_count true Values refl (λ xs. refl); lines = λ n. refl }

pub counted_effects : Counts true Effects (numbers Effect ∷ [])
unfolding after_count
counted_effects = record { plain_count = plain_count true Effects refl (λ xs. refl); lines = λ n. refl }

-- facts: of the goal and of prevail conditions, of mutex groups, and the conditions of axioms
pub counted_facts : Counts true Facts (numbers (fact_row true) ∷ [])
unfolding after_count
counted_facts = record { plain_count = plain_count true Facts refl (λ xs. refl); lines = λ n. refl }

pub counted_group_facts : Counts false GroupFacts (numbers (fact_row false) ∷ [])
unfolding after_count
counted_group_facts = record { plain_count = plain_count false GroupFacts refl (λ xs. refl); lines = λ n. refl }

pub counted_conditions : Counts false Conditions (numbers (fact_row false) ∷ [])
unfolding after_count
counted_conditions = record { plain_count = plain_count false Conditions refl (λ xs. refl); lines = λ n. refl }

pub counted_groups : Counts false Groups group_lines
unfolding after_count
counted_groups = record { plain_count = plain_count false Groups refl (λ xs. refl); lines = λ n. refl }

pub counted_operators : Counts true Operators operator_lines
unfolding after_count
counted_operators = record { plain_count = plain_count true Operators refl (λ xs. refl); lines = λ n. refl }

-- what follows the other numbers that count
module _ (n : ℕ) where
  pub axioms_follow : after_count Axioms n ≡ times n axiom_lines
  unfolding after_count
  axioms_follow = refl

  pub variables_follow : after_count Variables n ≡ after_variables n
  unfolding after_count
  variables_follow = refl
