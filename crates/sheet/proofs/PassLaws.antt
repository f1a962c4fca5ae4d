-- Words of either edition are accepted where their parts are laid out as the pairs say and they mean a task that can be written: what `Parts` and `Accepted` say
-- of accepted words, the other way round, check by check. Assumes nothing.
use Rattle.std.specs.Prelude.{None}
use Prim.Native.Nat.{ℕ, zero, suc, ◌+◌, ◌-◌, ◌≤◌, ◌<◌}
use native.Mathlib.Omega.{arith}
use mathlib.Core.Path.{◌≡◌, refl, sym, ◌∙◌, ap}
use mathlib.Core.Logic.{⊎_elim}
use mathlib.Core.Bool.{Bool, true, false, not, ◌&&◌, ◌||◌}
use mathlib.Core.List.{List, [], ◌∷◌, map, Memᴰ}
use lib.ListN.{length, get_or}
use lib.Dec.{ltb, leb, eqb}
use borrow.Author.Tests.{le-ltb, lt-leb, eq-eqb, ltb-true, ltb-false, leb-true, eqb-true, eqb-false}
use Rattle.refusal.specs.Place.{when, first}
use Rattle.refusal.proofs.PlaceLaws.{first_of_none, no_first, first_over, first_more}
use Rattle.refusal.proofs.CheckLaws.{answer_passes, answer_nothing}
use Rattle.sas.specs.Task.{Fact, Assignment, Effect, always}
use Rattle.sas.specs.Plan.{written}
use Rattle.sas.specs.Between.WellFormed.{Known, Rising, ActionFormed}
use Rattle.sas.specs.Between.WellFormed.Rising.{empty, fact}
use Rattle.sas.proofs.EffectLaws.{each_written}
use Rattle.sheet.specs.Limits.{limits}
use Rattle.sheet.specs.Layout.{word, edition, first_edition, second_edition, has_conditions, variables, actions, stated_length, pairs, pairs_end, offset, size, part_end, domain, start, effect_start, effect_end, effect_fact}
use Rattle.sheet.specs.Decode.{fact_of, facts, domains, initial, goal, effect_words, effect_at, effects, action, task}
use Rattle.sheet.specs.Between.Encode.{fact_word, Unfalling, Encodable}
use Rattle.sheet.specs.Between.Encode.Unfalling.{not_below}
use Rattle.sheet.specs.Causes.{bad_length, bad_edition, bad_counts, due, past_part, wrong_size, bad_pair, pair_place, bad_variable, variable_place, bad_fact, group_place, bad_effect, effect_place, first_in, effects_place, action_place, fact_place, cost_place, conflict_place, sheet_checks, Accepted}
use Rattle.sheet.proofs.TableLaws.{table_at, facts_length, facts_next}
use Rattle.sheet.proofs.EffectLaws.{effect_words_over, effect_words_all, effects_one}
use Rattle.sheet.proofs.FactWords.{word_of_fact}
use Rattle.sheet.proofs.ChainLaws.{first_in_nothing, first_in_more}
use Rattle.sheet.proofs.PairLaws.{due_first, due_later, pairs_fit}
use Rattle.sheet.proofs.CauseLaws.{Clear}
use Rattle.sheet.proofs.Parts.{Measured}
use Rattle.sheet.proofs.Accepted.{domains_length, domains_at, action_known}
use Rattle.sheet.proofs.LaidLaws.{Stands, Part, Laid, laid_length}
use Rattle.sheet.proofs.LaidLaws.Laid.{over, then}

-- of two tests, the second of which fails where the first holds, not both hold
not_both_hold : (a b : Bool) → (a ≡ true → b ≡ false) → (a && b) ≡ false
not_both_hold true b h = h refl
not_both_hold false b h = refl

-- where none of the sheet's checks fires, the sheet is accepted
clear_accepted : (w : List ℕ) → Clear w → Accepted w
unfolding sheet_checks
clear_accepted w clear =
    answer_passes _ _ (ap (λ b. when b 0) clear.length)
    ∙ answer_passes _ _ (ap (λ b. when b 0) clear.edition)
    ∙ answer_passes _ _ (ap (λ b. when b 0) clear.counts)
    ∙ answer_passes _ _ clear.pairs
    ∙ answer_passes _ _ clear.variables
    ∙ answer_passes _ _ clear.facts
    ∙ answer_passes _ _ clear.costs
    ∙ answer_passes _ _ clear.conflicts
    ∙ answer_nothing

module _ (w : List ℕ) where
  length_clear : Measured w → bad_length w ≡ false
  unfolding bad_length
  length_clear measured = rw (le-ltb _ _ measured.header, le-ltb _ _ measured.words, eq-eqb _ _ measured.stated)

  edition_clear : edition w ≡ first_edition → bad_edition w ≡ false
  unfolding bad_edition
  edition_clear e = rw (eq-eqb _ _ e)

  counts_clear : Measured w → bad_counts w ≡ false
  unfolding bad_counts
  counts_clear measured = rw (le-ltb _ _ measured.some_variable, le-ltb _ _ measured.variables, le-ltb _ _ measured.actions)

-- a part of pair k is as long as its kind wants: a word for each variable, or for an action a cost, a number of facts, and that many facts at least, and
-- behind these effects none of which runs past it, wherever it stands
pub record RightSize (w : List ℕ) (k : ℕ) (p : List ℕ) : Type 0 where
  pub of_variables : k < 2 → length p ≡ variables w
  pub of_action : 3 ≤ k → get_or p 1 0 + 2 ≤ length p
  pub of_effects : (from : ℕ) → 3 ≤ k → Stands w from p → past_part w (from + length p) (from + 2 + get_or p 1 0) ≡ false

-- and so is each part from pair k on
pub data RightSizes (w : List ℕ) : ℕ → List (List ℕ) → Type 0 where
  none : {k : ℕ} → RightSizes w k []
  next : {k : ℕ} {p : List ℕ} {ps : List (List ℕ)} → RightSize w k p → RightSizes w (k + 1) ps → RightSizes w k (p ∷ ps)

-- where no part is left, the words end
laid_over : {w : List ℕ} {k from : ℕ} {ps : List (List ℕ)} → Laid w k from ps → length ps ≡ 0 → from ≡ length w
laid_over (over e) none_left = e
laid_over (then told rest) none_left = absurd (omega arith)

module _ {w : List ℕ} {k from : ℕ} {p : List ℕ} (told : Part w k from p) where
  abbrev behind_facts : ℕ
  behind_facts = offset w k + 2 + word w (offset w k + 1)

  facts_fit : 3 ≤ k → RightSize w k p
      → (ltb (size w k) 2 || (ltb (size w k - 2) (word w (offset w k + 1)) || past_part w (part_end w k) behind_facts)) ≡ false
  facts_fit h right =
      let room : get_or p 1 0 + 2 ≤ length p = right.of_action h in
      let count : word w (offset w k + 1) ≡ get_or p 1 0 = told.stands.reads 1 _ (omega (arith, told.in_place)) (omega arith) in
      let end : part_end w k ≡ from + length p = omega (arith, told.in_place, told.sized) in
      let begin : behind_facts ≡ from + 2 + get_or p 1 0 = omega (arith, told.in_place) in
      rw (
        le-ltb (size w k) 2 (omega (arith, told.sized)),
        le-ltb (size w k - 2) (word w (offset w k + 1)) (omega (arith, told.sized)),
        end,
        begin,
        right.of_effects from h told.stands,
      )

  size_clear : RightSize w k p → wrong_size w k ≡ false
  unfolding wrong_size
  size_clear right =
      rw (
        not_both_hold (ltb k 2) (not (eqb (size w k) (variables w))) (λ h. ap not (eq-eqb _ _ (told.sized ∙ right.of_variables (ltb-true _ _ h)))),
        not_both_hold (leb 3 k) _ (λ h. facts_fit (leb-true _ _ h) right),
      )

  pair_clear : {ps : List (List ℕ)} → due w k ≡ from → RightSize w k p → Laid w (k + 1) (from + length p) ps
      → stated_length w ≡ length w → k + 1 + length ps ≡ pairs w → bad_pair w k ≡ false
  unfolding bad_pair
  pair_clear {ps} e right rest stated number =
      let ends : part_end w k ≡ from + length p = omega (arith, told.in_place, told.sized) in
      rw (
        eq-eqb _ _ (told.in_place ∙ sym e),
        le-ltb (stated_length w) (part_end w k) (omega (arith, laid_length rest)),
        not_both_hold (eqb (k + 1) (pairs w)) (ltb (part_end w k) (stated_length w)) (λ h.
            let last : k + 1 ≡ pairs w = eqb-true _ _ h in
            le-ltb (part_end w k) (stated_length w) (omega (arith, laid_over rest (omega arith)))),
        size_clear right,
      )

module _ (w : List ℕ) (stated : stated_length w ≡ length w) where
  pairs_clear : {k from : ℕ} {ps : List (List ℕ)} → Laid w k from ps → RightSizes w k ps → due w k ≡ from → k + length ps ≡ pairs w
      → first (bad_pair w) k (pairs w) ≡ None
  pairs_clear {k} {from} (over e) none d n = first_over (bad_pair w) k (pairs w) (omega arith)
  pairs_clear {k} {from} (then {p = p} told rest) (next right rights) d n =
      let before : k + 1 - 1 ≡ k = omega arith in
      let following : due w (k + 1) ≡ part_end w k = due_later w (k + 1) (λ e. omega arith) ∙ ap (part_end w) before in
      first_more (bad_pair w) k (pairs w) (omega arith) (pair_clear told d right rest stated (omega arith))
      ∙ pairs_clear rest rights (following ∙ omega (arith, told.in_place, told.sized)) (omega arith)

  pub laid_clear : {from : ℕ} {ps : List (List ℕ)} → Laid w 0 from ps → RightSizes w 0 ps → from ≡ pairs_end w → length ps ≡ pairs w → pair_place w ≡ None
  laid_clear {from} laid rights e n =
      pairs_fit w (omega (arith, laid_length laid)) ∙ pairs_clear laid rights (due_first w 0 refl ∙ sym e) (omega arith)

-- a known fact whose variable is above that of the fact before it is not bad
fact_clear : (w : List ℕ) (start i : ℕ) → Known (domains w) (fact_of (word w i))
    → (start < i → (fact_of (word w (i - 1))).variable < (fact_of (word w i)).variable) → bad_fact w start i ≡ false
unfolding bad_fact
fact_clear w start i known rising =
    let f : Fact = fact_of (word w i) in
    let below : f.variable < variables w = omega (arith, known.variable, domains_length w) in
    let value : f.value < domain w f.variable = rw (domains_at w f.variable below) at known.value in
    rw (
      lt-leb _ _ below,
      lt-leb _ _ value,
      not_both_hold (ltb start i) (leb f.variable (fact_of (word w (i - 1))).variable) (λ h. lt-leb _ _ (rising (ltb-true _ _ h))),
    )

-- a group of facts that is an assignment over the domains has no bad fact from word i on, if that at i is above the one before it
group_clear : (w : List ℕ) (start i end : ℕ) {from : ℕ} {q : Assignment} → Rising (domains w) from q → q ≡ facts w i end
    → (start < i → (fact_of (word w (i - 1))).variable < from) → first (bad_fact w start) i end ≡ None
group_clear w start i end empty e after = first_over (bad_fact w start) i end (omega (arith, facts_length w i end, ap length e))
group_clear w start i end (fact {f = f} {q = q} known above rest) e after =
    let more : i < end = omega (arith, facts_length w i end, ap length e) in
    let here : f ≡ fact_of (word w i) = cc (facts_next w i end more) in
    let later : q ≡ facts w (i + 1) end = cc (facts_next w i end more) in
    let variable : f.variable ≡ (fact_of (word w i)).variable = ap (λ g. g.variable) here in
    let back : i + 1 - 1 ≡ i = omega arith in
    first_more (bad_fact w start) i end more (fact_clear w start i (rw here at known) (λ h. omega (arith, after h)))
    ∙ group_clear w start (i + 1) end rest later (λ h. rw back (omega arith))

-- nor has one at its first fact
whole_clear : (w : List ℕ) (start end : ℕ) → Rising (domains w) 0 (facts w start end) → group_place w start end ≡ None
unfolding group_place
whole_clear w start end rising = group_clear w start start end rising refl (λ h. absurd (omega arith))

-- facts in order, by the first of them
unfalling_split : {from : ℕ} {f : Fact} {q : Assignment} → Unfalling from (f ∷ q) → (from ≤ fact_word f) × Unfalling (fact_word f) q
unfalling_split (not_below low rest) = (low, rest)

-- a known fact of an effect that is not below the one before it is not bad, nor is one of its condition
effect_clear : (w : List ℕ) (start end i : ℕ) → Rising (domains w) 0 (facts w (i + 1) (effect_fact w end i)) → Known (domains w) (fact_of (word w (effect_fact w end i)))
    → (start < i → word w (i - 1) ≤ word w (effect_fact w end i)) → effect_place w start end i ≡ None
unfolding effect_place bad_effect
effect_clear w start end i condition known order =
    let k : ℕ = effect_fact w end i in
    let f : Fact = fact_of (word w k) in
    let below : f.variable < variables w = omega (arith, known.variable, domains_length w) in
    let value : f.value < domain w f.variable = rw (domains_at w f.variable below) at known.value in
    rw (
      whole_clear w (i + 1) k condition,
      lt-leb _ _ below,
      lt-leb _ _ value,
      not_both_hold (ltb start i) (ltb (word w k) (word w (i - 1))) (λ h. le-ltb _ _ (order (ltb-true _ _ h))),
    )

-- effects of edition 2 that stand one behind the other have no bad fact, where their conditions are over the domains, their facts are known, and these are in
-- order: from word i on, where `from` is the fact before it
chain_clear : (w : List ℕ) (start end i n from : ℕ) → end - i ≤ n → (start < i → word w (i - 1) ≡ from) → start ≤ i
    → ((e : Effect) → Memᴰ e (effects true w i end) → Rising (domains w) 0 e.condition × Known (domains w) e.fact)
    → Unfalling from (map (λ e. e.fact) (effects true w i end)) → first_in (effect_place w start end) (effect_words w end i (end - i)) ≡ None
unfolding effect_at
chain_clear w start end i zero from few before low formed order = rw (effect_words_over w end i (end - i) (omega arith)) (first_in_nothing (effect_place w start end))
chain_clear w start end i (suc n) from few before low formed order =
    by_case (ltb i end) refl (chain_clear w start end (effect_fact w end i + 1) n (fact_word (fact_of (word w (effect_fact w end i)))))
  where
    k : ℕ
    k = effect_fact w end i

    by_case : (b : Bool) → ltb i end ≡ b
        → (end - (k + 1) ≤ n → (start < k + 1 → word w (k + 1 - 1) ≡ fact_word (fact_of (word w k))) → start ≤ k + 1
        → ((e : Effect) → Memᴰ e (effects true w (k + 1) end) → Rising (domains w) 0 e.condition × Known (domains w) e.fact)
        → Unfalling (fact_word (fact_of (word w k))) (map (λ e. e.fact) (effects true w (k + 1) end)) → first_in (effect_place w start end) (effect_words w end (k + 1) (end - (k + 1))) ≡ None)
        → first_in (effect_place w start end) (effect_words w end i (end - i)) ≡ None
    by_case false e later = rw (effect_words_over w end i (end - i) (ltb-false _ _ e)) (first_in_nothing (effect_place w start end))
    by_case true e later =
        let below : i < end = ltb-true _ _ e in
        let split : effects true w i end ≡ effect_at w end i ∷ effects true w (k + 1) end = effects_one w i end below in
        let ordered : Unfalling from (fact_of (word w k) ∷ map (λ d. d.fact) (effects true w (k + 1) end)) = rw split at order in
        let (low_enough, rest) = unfalling_split ordered in
        let is : fact_word (fact_of (word w k)) ≡ word w k = word_of_fact (word w k) in
        let back : k + 1 - 1 ≡ k = omega arith in
        let (condition, known) = formed (effect_at w end i) (rw split (mathlib.Core.List.Memᴰ.head refl)) in
        rw (
          effect_words_all w end i below,
          first_in_more (effect_place w start end) i (effect_words w end (k + 1) (end - (k + 1))),
          effect_clear w start end i condition known (λ h. omega (arith, before h, is)),
        )
        (later (omega arith) (λ h. ap (word w) back ∙ sym is) (omega arith) (λ d m. formed d (rw split (mathlib.Core.List.Memᴰ.tail m))) rest)

-- words that are measured, whose pairs fit, and that mean a task that can be written, are accepted
module _ (w : List ℕ) (writable : Encodable (edition w) (task w)) where
  variable_clear : (v : ℕ) → v < variables w → bad_variable w v ≡ false
  unfolding bad_variable task initial
  variable_clear v h =
      let there : v < length (domains w) = omega (arith, domains_length w) in
      let starts : get_or (initial w) v 0 ≡ start w v = table_at (start w) 0 (variables w) v v 0 h (omega arith) in
      let below : start w v < domain w v = rw (domains_at w v h, starts) at (writable.well_formed.initial.below v there) in
      let few : domain w v ≤ limits.values = rw (domains_at w v h) at (writable.values v there) in
      rw (le-ltb (domain w v) 1 (omega arith), le-ltb limits.values (domain w v) few, lt-leb _ _ below)

  variables_clear : variable_place w ≡ None
  unfolding variable_place
  variables_clear = no_first (bad_variable w) (variables w) variable_clear

  effects_clear : (a : ℕ) → a < actions w → effects_place w (effect_start w a) (effect_end w a) ≡ None
  unfolding effects_place task action effects written
  effects_clear a h = by_edition (has_conditions w) refl
    where
      this : Memᴰ (action w a) (task w).actions
      this = action_known w a h

      here : ActionFormed (domains w) (action w a)
      here = writable.well_formed.actions (action w a) this

      by_edition : (b : Bool) → has_conditions w ≡ b → effects_place w (effect_start w a) (effect_end w a) ≡ None
      by_edition true second =
          let from : ℕ = effect_start w a in
          let end : ℕ = effect_end w a in
          let all : (action w a).effects ≡ effects true w from end = rw second in
          let formed : (e : Effect) → Memᴰ e (effects true w from end) → Rising (domains w) 0 e.condition × Known (domains w) e.fact =
          λ e m. let n : Memᴰ e (action w a).effects = rw all m in (here.conditions e n, here.known e.fact (mathlib.Core.List.Memᴰ.map (λ d. d.fact) n)) in
          rw second
          (chain_clear w from end from (end - from) 0 (omega arith) (λ h. absurd (omega arith)) (omega arith) formed
          (rw all at (writable.in_order (eqb-true _ _ second) (action w a) this)))
      by_edition false first =
          let q : Assignment = facts w (effect_start w a) (effect_end w a) in
          let all : (action w a).effects ≡ map always q = rw first in
          let one : edition w ≡ first_edition = ⊎_elim (λ is. is) (λ two. absurd (eqb-false (edition w) second_edition first two)) writable.known in
          let facts_of : map (λ e. e.fact) (action w a).effects ≡ q = ap (map (λ e. e.fact)) all ∙ each_written q in
          rw first (whole_clear w _ _ (rw facts_of at (writable.plain one (action w a) this).rising))

  action_clear : (a : ℕ) → a < actions w → action_place w a ≡ None
  unfolding action_place task action
  action_clear a h =
      let here : ActionFormed (domains w) (action w a) = writable.well_formed.actions (action w a) (action_known w a h) in
      rw (whole_clear w _ _ here.precondition, effects_clear a h)

  facts_clear : fact_place w ≡ None
  unfolding fact_place task goal
  facts_clear = rw (whole_clear w _ _ writable.well_formed.goal, first_of_none (action_place w) (actions w) action_clear)

  costs_clear : cost_place w ≡ None
  unfolding cost_place action
  costs_clear = no_first _ (actions w) (λ a h. le-ltb _ _ (writable.costs (action w a) (action_known w a h)))

  conflicts_clear : conflict_place w ≡ None
  unfolding conflict_place task
  conflicts_clear = no_first _ (actions w) (λ a h. (writable.well_formed.actions (action w a) (action_known w a h)).consistent)

  pub passes : edition w ≡ first_edition → Measured w → pair_place w ≡ None → Accepted w
  passes first measured pairs =
      clear_accepted w (record {
        length = length_clear w measured;
        edition = edition_clear w first;
        counts = counts_clear w measured;
        pairs = pairs;
        variables = variables_clear;
        facts = facts_clear;
        costs = costs_clear;
        conflicts = conflicts_clear;
      })
