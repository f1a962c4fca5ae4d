-- In a sheet that meets none of the causes before it, the first action in which effects clash is the place of cause 16, and effects without conditions have none:
-- what those checks have passed are assignments that a table can hold, and effects in the order of their facts. Assumes nothing.
use Rattle.std.specs.Prelude.{None}
use Prim.Native.Nat.{ℕ, zero, suc, ◌+◌, ◌≤◌, ◌<◌}
use native.Mathlib.Omega.{arith}
use mathlib.Core.Path.{◌≡◌, refl, sym, ◌∙◌}
use mathlib.Core.Bool.{Bool, true, false}
use mathlib.Core.List.Memᴰ
use mathlib.Core.List.{List, Memᴰ}
use lib.Dec.{ltb}
use borrow.Author.Tests.{ltb-true, ltb-false}
use Rattle.refusal.specs.Place.{Place}
use Rattle.refusal.specs.Place.{first}
use Rattle.refusal.proofs.PlaceLaws.{first_over, first_here, first_more, no_first}
use Rattle.sas.specs.Task.{Fact}
use Rattle.sas.specs.Plan.{written}
use Rattle.sas.specs.Conflict.{conflicting}
use Rattle.sas.specs.Between.WellFormed.{Rising}
use Rattle.sas.proofs.WellFormedLaws.{rising_known, rising_agrees, plain_agrees, agreeing_consistent}
use Rattle.sheet.specs.Limits.{limits}
use Rattle.sheet.specs.Layout.{word, variables, actions, has_conditions, effect_start, effect_end}
use Rattle.sheet.specs.Decode.{fact_of, facts, domains, effect_words, effect_at, effects, action}
use Rattle.sheet.specs.Causes.{fact_place, conflict_place}
use Rattle.sheet.proofs.TableLaws.{table_member_at}
use Rattle.sheet.proofs.Accepted.{domains_length, precondition_formed, effects_formed, action_in_order, action_plain}
use Rattle.conflict.specs.Between.Clash.{clash_in, clash_place}
use Rattle.conflict.specs.Between.Found.{Finds}
use Rattle.conflict.proofs.SaidLaws.{Holdable}
use Rattle.conflict.proofs.ConflictTheorem.{AllDecoded, clash_conflicting}

-- two tests that say the same below the end find the same
first_alike : (t u : ℕ → Bool) (n i end : ℕ) → end ≤ i + n → ((k : ℕ) → k < end → t k ≡ u k) → first t i end ≡ first u i end
first_alike t u zero i end few same = first_over t i end (omega arith) ∙ sym (first_over u i end (omega arith))
first_alike t u (suc n) i end few same = by_case (ltb i end) refl (first_alike t u n (i + 1) end (omega arith) same)
  where
    tested : i < end → first t (i + 1) end ≡ first u (i + 1) end → (b : Bool) → t i ≡ b → first t i end ≡ first u i end
    tested below later true h = first_here t i end below h ∙ sym (first_here u i end below (sym (same i below) ∙ h))
    tested below later false h = first_more t i end below h ∙ later ∙ sym (first_more u i end below (sym (same i below) ∙ h))

    by_case : (b : Bool) → ltb i end ≡ b → first t (i + 1) end ≡ first u (i + 1) end → first t i end ≡ first u i end
    by_case true e later = tested (ltb-true _ _ e) later (t i) refl
    by_case false e later = first_over t i end (ltb-false _ _ e) ∙ sym (first_over u i end (ltb-false _ _ e))

-- a word's fact is at a value, and so is each fact among words
word_small : (x : ℕ) → (fact_of x).value < limits.values
word_small x = omega arith

facts_small : (w : List ℕ) (i end : ℕ) (f : Fact) → Memᴰ f (facts w i end) → f.value < limits.values
unfolding facts
facts_small w i end f m = let (k, low, high, same) = table_member_at (λ j. fact_of (word w j)) i _ m in rw same (word_small (word w k))

module _ (w : List ℕ) (clear : fact_place w ≡ None) (few : variables w ≤ limits.variables) where
  -- a table can hold facts that rise
  facts_holdable : (i end : ℕ) → Rising (domains w) 0 (facts w i end) → Holdable (facts w i end)
  facts_holdable i end rising =
      record {
        agree = rising_agrees rising;
        variable = λ f m. omega (arith, (rising_known rising m).variable, domains_length w);
        value = facts_small w i end;
      }

  needs_holdable : (a : ℕ) → a < actions w → Holdable (action w a).precondition
  unfolding action
  needs_holdable a h = facts_holdable _ _ (precondition_formed w clear a h)

  module _ (second : has_conditions w ≡ true) where
    effects_small : (a : ℕ) → a < actions w → AllDecoded (action w a).effects
    unfolding action effects effect_at
    effects_small a h e m =
        let end : ℕ = effect_end w a in
        let (i, among, same) = Memᴰ.of_map (effect_at w end) (effect_words w end (effect_start w a) _) (rw second at m) in
        let (rising, known) = effects_formed w clear a h e m in
        rw (← same) (record { condition = facts_holdable _ _ (rw (← same) at rising); value = word_small _ })

    -- an action's effects conflict just where they clash
    clash_right : (a : ℕ) → a < actions w → clash_in w a ≡ conflicting (action w a)
    unfolding written
    clash_right a h = clash_conflicting (action w a) (needs_holdable a h) (effects_small a h) (action_in_order w clear second a h)

    found_second : clash_place w ≡ conflict_place w
    unfolding clash_place conflict_place
    found_second = first_alike (clash_in w) (λ a. conflicting (action w a)) (actions w) 0 (actions w) (omega arith) clash_right

  found_first : has_conditions w ≡ false → None ≡ conflict_place w
  unfolding conflict_place
  found_first first_edition = sym (no_first (λ a. conflicting (action w a)) (actions w) (λ a h. agreeing_consistent (action w a) (plain_agrees (action_plain w clear first_edition a h))))

-- with conditions, what is found is the first action in which effects clash, and without nothing
pub finds_second : (w : List ℕ) (p : Place) → has_conditions w ≡ true → p ≡ clash_place w → Finds w p
finds_second w p second found = record { told = λ clear few. found ∙ found_second w clear few second }

pub finds_first : (w : List ℕ) → has_conditions w ≡ false → Finds w None
finds_first w first_edition = record { told = λ clear few. found_first w clear few first_edition }
