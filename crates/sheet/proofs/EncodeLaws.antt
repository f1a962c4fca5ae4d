-- Words among which the parts of a task are laid out mean that task: each part is read where it stands, and facts one after another. Assumes nothing.
use Prim.Native.Nat.{ℕ, ◌+◌, ◌<◌}
use native.Mathlib.Omega.{arith}
use mathlib.Core.Path.{◌≡◌, refl, sym, ◌∙◌, ap}
use mathlib.Core.Logic.{⊎_elim}
use mathlib.Core.Bool.{Bool, true, false}
use mathlib.Core.List.{List, [], ◌∷◌, ◌++◌, map, flatten, Memᴰ}
use lib.ListN.{length, get_or, length-append, length-map}
use lib.Seq.{ext_get_or}
use lib.Dec.{eqb}
use borrow.Author.Tests.{eqb-false}
use Rattle.sas.specs.Task.{Fact, Assignment, always, Action, Task}
use Rattle.sas.specs.Between.WellFormed.{Known, ActionFormed, Plain, WellFormed}
use Rattle.sas.specs.Plan.{written}
use Rattle.sas.proofs.WellFormedLaws.{rising_known}
use Rattle.sheet.specs.Limits.{limits}
use Rattle.sheet.specs.Layout.{word, edition as edition_of, first_edition, second_edition, has_conditions, variables, actions, offset, goal_start, goal_end, cost_word, precondition_count, precondition_start, effect_start, effect_end}
use Rattle.sheet.specs.Decode.{table, domains, initial, goal, effects, action, task}
use Rattle.sheet.specs.Between.Encode.{fact_word, fact_words, effect_part, effects_part, action_part, parts, Encodable}
use Rattle.sheet.proofs.TableLaws.{table_length, table_at}
use Rattle.sheet.proofs.LaidLaws.{Stands, stands_first, stands_second, Part, Laid}
use Rattle.sheet.proofs.LaidLaws.Laid.{then}
use Rattle.sheet.proofs.FactWords.{facts_read}
use Rattle.sheet.proofs.ChainLaws.{stands_chain, chain_effects}

-- the part of pair k, where it has a word for each of n variables
variables_read : (w l : List ℕ) {from : ℕ} (k n : ℕ) → Part w k from l → n ≡ length l → table (λ v. word w (offset w k + v)) 0 n ≡ l
variables_read w l k n told e = ext_get_or 0 (table read 0 n) l (table_length read 0 n ∙ e) same
  where
    read : ℕ → ℕ
    read v = word w (offset w k + v)

    same : (v : ℕ) → v < length (table read 0 n) → get_or (table read 0 n) v 0 ≡ get_or l v 0
    same v h =
        let here : v < n = rw table_length at h in
        table_at read 0 n v v 0 here (omega arith) ∙ told.stands.reads v _ (omega (arith, told.in_place)) (omega arith)

module _ {edition : ℕ} (w : List ℕ) (T : Task) (writable : Encodable edition T) (stated : edition_of w ≡ edition) where
  -- the value of a known fact is below the limit
  small : {f : Fact} → Known T.domains f → f.value < limits.values
  small {f} known = omega (arith, known.value, writable.values f.variable known.variable)

  -- the effects of an action are those that are read where they stand
  effects_read : (i end : ℕ) (x : Action) → ActionFormed T.domains x → (edition ≡ first_edition → Plain T.domains x) → Stands w i (effects_part edition x)
      → end ≡ i + length (effects_part edition x) → effects (has_conditions w) w i end ≡ x.effects
  unfolding effects_part effects written
  effects_read i end x formed plain s same = rw stated (by_edition (eqb edition second_edition) refl)
    where
      by_edition : (b : Bool) → eqb edition second_edition ≡ b → effects b w i end ≡ x.effects
      by_edition true e =
          let stands : Stands w i (flatten (map effect_part x.effects)) = rw e at s in
          let ends : end ≡ i + length (flatten (map effect_part x.effects)) = rw e at same in
          chain_effects w end (stands_chain w end i x.effects stands ends) (λ d m. (
            small (formed.known d.fact (mathlib.Core.List.Memᴰ.map (λ c. c.fact) m)),
            λ f n. small (rising_known (formed.conditions d m) n),
          ))
      by_edition false e =
          let is : edition ≡ first_edition = ⊎_elim (λ one. one) (λ two. absurd (eqb-false edition second_edition e two)) writable.known in
          let q : Assignment = map (λ c. c.fact) x.effects in
          let stands : Stands w i (fact_words q) = rw e at s in
          let ends : end ≡ i + length q = rw e at same ∙ ap (λ n. i + n) (length-map q fact_word) in
          ap (map always) (facts_read q i end (λ f m. small (formed.known f m)) stands ends) ∙ sym (plain is).without_condition

  -- action a is the one whose part pair 3 + a has
  action_read : {from : ℕ} (a : ℕ) (x : Action) → ActionFormed T.domains x → (edition ≡ first_edition → Plain T.domains x)
      → Part w (3 + a) from (action_part edition x) → action w a ≡ x
  unfolding action action_part
  action_read {from} a x formed plain told =
      let count : ℕ = length x.precondition in
      let before : List ℕ = fact_words x.precondition in
      let after : List ℕ = effects_part edition x in
      let many : length before ≡ count = length-map x.precondition fact_word in
      let costs : cost_word w a ≡ x.cost = told.stands.reads 0 _ (omega (arith, told.in_place)) (omega arith) in
      let counts : precondition_count w a ≡ count = told.stands.reads 1 _ (omega (arith, told.in_place)) (omega arith) in
      let begin : precondition_start w a ≡ from + 2 = omega (arith, told.in_place) in
      let end : effect_end w a ≡ effect_start w a + length after = omega (arith, told.in_place, told.sized, length-append before after) in
      let both : Stands w (precondition_start w a) (before ++ after) = stands_second (x.cost ∷ count ∷ []) (before ++ after) told.stands _ begin in
      rw (
        facts_read x.precondition (precondition_start w a) (effect_start w a) (λ f m. small (rising_known formed.precondition m)) (stands_first before after both)
            (omega arith),
        effects_read (effect_start w a) (effect_end w a) x formed plain (stands_second before after both _ (omega arith)) end,
        costs,
      )

  actions_read : {from : ℕ} (k a : ℕ) (p : List Action) → k ≡ 3 + a → ((x : Action) → Memᴰ x p → Memᴰ x T.actions)
      → Laid w k from (map (action_part edition) p) → table (action w) a (length p) ≡ p
  unfolding table
  actions_read k a [] e known laid = refl
  actions_read {from = from} k a (x ∷ p) e known (then told rest) =
      let this : Memᴰ x T.actions = known x (mathlib.Core.List.Memᴰ.head refl) in
      let here : action w a ≡ x = action_read a x (writable.well_formed.actions x this) (λ first. writable.plain first x this) (rw e at told) in
      rw (here, actions_read {from = from + length (action_part edition x)} (k + 1) (a + 1) p (omega arith) (λ y m. known y (mathlib.Core.List.Memᴰ.tail m)) rest)

  -- words among which the parts of a task are laid out mean that task
  pub task_read : {from : ℕ} → variables w ≡ length T.domains → actions w ≡ length T.actions → Laid w 0 from (parts edition T) → task w ≡ T
  unfolding task domains initial goal parts
  task_read many number (then first (then second (then third rest))) =
      let formed : WellFormed T = writable.well_formed in
      let begins : Stands w (goal_start w) (fact_words T.goal) = rw third.in_place third.stands in
      rw (
        variables_read w T.domains 0 (variables w) first many,
        variables_read w T.initial 1 (variables w) second (many ∙ sym formed.initial.complete),
        facts_read T.goal (goal_start w) (goal_end w) (λ f m. small (rising_known formed.goal m)) begins (omega (arith, third.sized, length-map T.goal fact_word)),
        number,
        actions_read 3 0 T.actions refl (λ x m. m) rest,
      )
