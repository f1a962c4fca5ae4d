-- Among the words of an accepted sheet the parts of the task that it means are laid out: each stands where it is read, and each ends where the next begins,
-- or the words end. By induction on the actions. Assumes nothing.
use Prim.Native.Nat.{ℕ, zero, suc, ◌+◌, ◌-◌, ◌≤◌, ◌<◌}
use native.Mathlib.Omega.{arith}
use mathlib.Core.Path.{◌≡◌, refl, sym, ◌∙◌, ap}
use mathlib.Core.Bool.{Bool, true, false}
use mathlib.Core.List.{List, ◌∷◌, ◌++◌, map}
use lib.ListN.{length, length-append, length-map}
use Rattle.sas.specs.Task.{Assignment, always, Action}
use Rattle.sas.specs.Plan.{written}
use Rattle.sas.proofs.EffectLaws.{each_written}
use Rattle.sheet.specs.Layout.{word, edition, has_conditions, variables, actions, pairs, pairs_end, offset, size, part_end, goal_start, goal_end, precondition_count, precondition_start, effect_start, effect_end}
use Rattle.sheet.specs.Decode.{table, facts, domains, initial, goal, effects, action, task}
use Rattle.sheet.specs.Between.Encode.{fact_word, fact_words, effects_part, action_part, parts}
use Rattle.sheet.specs.Causes.{past_part, Accepted}
use Rattle.sheet.proofs.TableLaws.{table_length, table_at, facts_length}
use Rattle.sheet.proofs.Parts.{first_part, next_part, last_part, domains_size, initial_size, effect_inside, effects_whole}
use Rattle.sheet.proofs.LaidLaws.{Stands, stands_word, stands_both, Part, Laid}
use Rattle.sheet.proofs.LaidLaws.Laid.{over, then}
use Rattle.sheet.proofs.FactWords.{facts_stand}
use Rattle.sheet.proofs.ChainLaws.{chain_stands, whole_chain}

module _ (w : List ℕ) where
  -- a word for each variable
  variables_stand : (k n : ℕ) → Stands w (offset w k) (table (λ v. word w (offset w k + v)) 0 n)
  variables_stand k n =
      record {
        reads = λ v j e h.
            let there : v < n = rw table_length at h in
            ap (word w) e ∙ sym (table_at (λ u. word w (offset w k + u)) 0 n v v 0 there (omega arith));
      }

  -- the effects that are read stand where they are, in the edition that they are read in, where none runs past the end
  effects_stand : (i end : ℕ) (x : Action) → i ≤ end → past_part w end i ≡ false → effects (has_conditions w) w i end ≡ x.effects
      → Stands w i (effects_part (edition w) x) × (i + length (effects_part (edition w) x) ≡ end)
  unfolding effects_part past_part effects written
  effects_stand i end x low whole same = by_edition (has_conditions w) refl
    where
      by_edition : (b : Bool) → has_conditions w ≡ b → Stands w i (effects_part (edition w) x) × (i + length (effects_part (edition w) x) ≡ end)
      by_edition true second =
          let read : effects true w i end ≡ x.effects = rw second at same in
          rw (second, ← read) (chain_stands w end (whole_chain w end i (end - i) low (omega arith) (rw second at whole)))
      by_edition false first =
          let q : Assignment = facts w i end in
          let all : x.effects ≡ map always q = sym (rw first at same) in
          let written : map (λ e. e.fact) x.effects ≡ q = ap (map (λ e. e.fact)) all ∙ each_written q in
          rw (first, written) (facts_stand w i end, omega (arith, length-map q fact_word, facts_length w i end))

module _ (w : List ℕ) (accepted : Accepted w) where
  variables_told : (k : ℕ) → size w k ≡ variables w → Part w k (offset w k) (table (λ v. word w (offset w k + v)) 0 (variables w))
  variables_told k sized = record { in_place = refl; sized = sized ∙ sym (table_length _ 0 (variables w)); stands = variables_stand w k (variables w) }

  goal_told : Part w 2 (offset w 2) (fact_words (goal w))
  unfolding goal
  goal_told =
      record {
        in_place = refl;
        sized = omega (arith, length-map (goal w) fact_word, facts_length w (goal_start w) (goal_end w));
        stands = facts_stand w (goal_start w) (goal_end w);
      }

  action_told : (a : ℕ) → a < actions w → Part w (3 + a) (offset w (3 + a)) (action_part (edition w) (action w a))
  unfolding action action_part
  action_told a h =
      let before : List ℕ = fact_words (action w a).precondition in
      let after : List ℕ = effects_part (edition w) (action w a) in
      let (fits, inside) = effect_inside w accepted a h in
      let (effects, ends) = effects_stand w (effect_start w a) (effect_end w a) (action w a) fits (effects_whole w accepted a h) refl in
      let many : length (action w a).precondition ≡ precondition_count w a = omega (arith, facts_length w (precondition_start w a) (effect_start w a)) in
      let needed : length before ≡ precondition_count w a = length-map (action w a).precondition fact_word ∙ many in
      let both : Stands w (precondition_start w a) (before ++ after) = stands_both before after _ (omega arith) (facts_stand w _ _) effects in
      record {
        in_place = refl;
        sized = omega (arith, length-append before after);
        stands = stands_word refl refl (stands_word (omega arith) (sym many) both);
      }

  -- word `from` is where the part of pair k begins, or where the words end if there is no pair k
  record Next (k from : ℕ) : Type 0 where
    begins : k < pairs w → offset w k ≡ from
    ends : k ≡ pairs w → from ≡ length w

  -- so it is past each part, and the parts are laid out from there if they are from the next on
  lay : {k from : ℕ} {p : List ℕ} {ps : List (List ℕ)} → Next k from → k < pairs w → Part w k (offset w k) p
      → (Next (k + 1) (from + length p) → Laid w (k + 1) (from + length p) ps) → Laid w k from (p ∷ ps)
  lay {k} {from} {p} here h part rest =
      let told : Part w k from p = rw (← here.begins h) part in
      let end : part_end w k ≡ from + length p = omega (arith, told.in_place, told.sized) in
      then told (rest (record {
        begins = λ more. sym (next_part w accepted k more) ∙ end;
        ends = λ none. let last : k ≡ 2 + actions w = omega arith in sym end ∙ rw last (last_part w accepted);
      }))

  actions_laid : (n k a from : ℕ) → k ≡ 3 + a → a + n ≡ actions w → Next k from → Laid w k from (map (action_part (edition w)) (table (action w) a n))
  unfolding table
  actions_laid zero k a from e number here = over (here.ends (omega arith))
  actions_laid (suc n) k a from e number here =
      lay here (omega arith) (rw e (action_told a (omega arith))) (actions_laid n (k + 1) (a + 1) _ (omega arith) (omega arith))

  pub accepted_laid : Laid w 0 (pairs_end w) (parts (edition w) (task w))
  unfolding parts task domains initial
  accepted_laid =
      let start : Next 0 (pairs_end w) = record { begins = λ some. first_part w accepted; ends = λ none. absurd (omega arith) } in
      lay start (omega arith) (variables_told 0 (domains_size w accepted)) (λ second.
      lay second (omega arith) (variables_told 1 (initial_size w accepted)) (λ third.
      lay third (omega arith) goal_told (actions_laid (actions w) 3 0 _ refl (omega arith))))
