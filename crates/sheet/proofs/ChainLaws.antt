-- Effects of edition 2 that stand one behind the other, up to the end of their part: where none runs past it they do, with the effects that are read there,
-- and what is written so is read back, runs past no end and has no bad fact where the effects are over the domains and in the order of their facts. By
-- induction along the effects. Assumes nothing.
use Rattle.std.specs.Prelude.{None}
use Prim.Native.Nat.{ℕ, zero, suc, ◌+◌, ◌-◌, ◌≤◌, ◌<◌}
use native.Mathlib.Omega.{arith}
use mathlib.Core.Path.{◌≡◌, refl, sym, ◌∙◌, ap}
use mathlib.Core.Bool.{Bool, true, false, ◌&&◌}
use mathlib.Core.List.{List, [], ◌∷◌, ◌++◌, map, flatten, Memᴰ}
use lib.ListN.{length, length-append, length-map}
use lib.Dec.{ltb, leb}
use borrow.Author.Tests.{ltb-true, ltb-false, le-ltb}
use Rattle.sas.specs.Task.{Fact, Effect}
use Rattle.sas.specs.Conflict.{some_of}
use Rattle.sas.proofs.SomeLaws.{or_neither}
use Rattle.refusal.specs.Place.{Place}
use Rattle.refusal.specs.Place.{when, or_else}
use Rattle.refusal.proofs.PlaceLaws.{or_else_nowhere, when_nowhere}
use Rattle.sheet.specs.Limits.{limits}
use Rattle.sheet.specs.Layout.{word, variables, domain, effect_fact}
use Rattle.sheet.specs.Decode.{fact_of, facts, effect_words, effect_at, effects}
use Rattle.sheet.specs.Causes.{runs_past, group_place, bad_effect, effect_place, first_in}
use Rattle.sheet.specs.Between.Encode.{fact_word, fact_words, effect_part, Unfalling}
use Rattle.sheet.specs.Between.Encode.Unfalling.{nothing, not_below}
use Rattle.sheet.proofs.CauseLaws.{none_of_three}
use Rattle.sheet.proofs.TableLaws.{facts_length}
use Rattle.sheet.proofs.EffectLaws.{effect_words_over, effect_words_all, effects_none, effects_one}
use Rattle.sheet.proofs.LaidLaws.{Stands, stands_first, stands_second, stands_word, stands_both}
use Rattle.sheet.proofs.FactWords.{fact_of_word, word_of_fact, facts_stand, facts_read}

-- these effects stand from word i on, each behind the other, up to word end
pub data Chain (w : List ℕ) (end : ℕ) : ℕ → List Effect → Type 0 where
  over : {i : ℕ} → i ≡ end → Chain w end i []
  then : {i : ℕ} {e : Effect} {es : List Effect} → word w i ≡ length e.condition → Stands w (i + 1) (fact_words e.condition)
      → word w (i + 1 + length e.condition) ≡ fact_word e.fact → i + 1 + length e.condition < end
      → Chain w end (i + 1 + length e.condition + 1) es → Chain w end i (e ∷ es)

part_length : (e : Effect) → length (effect_part e) ≡ length e.condition + 2
unfolding effect_part
part_length e = omega (arith, length-append (fact_words e.condition) (fact_word e.fact ∷ []), length-map e.condition fact_word)

module _ (w : List ℕ) (end : ℕ) where
  -- what is written stands so
  pub stands_chain : (i : ℕ) (es : List Effect) → Stands w i (flatten (map effect_part es)) → end ≡ i + length (flatten (map effect_part es)) → Chain w end i es
  unfolding flatten effect_part
  stands_chain i [] s e = over {i = i} (omega arith)
  stands_chain i (e ∷ es) s same =
      let condition : List ℕ = fact_words e.condition in
      let own : List ℕ = fact_word e.fact ∷ [] in
      let later : List ℕ = flatten (map effect_part es) in
      let many : length condition ≡ length e.condition = length-map e.condition fact_word in
      let first : Stands w i (effect_part e) = stands_first (effect_part e) later s in
      let behind : Stands w (i + 1) (condition ++ own) = stands_second (length e.condition ∷ []) (condition ++ own) first (i + 1) refl in
      let last : Stands w (i + 1 + length e.condition) own = stands_second condition own behind _ (omega arith) in
      let long = part_length e in
      let all = length-append (effect_part e) later in
      then {e = e} (first.reads 0 i (omega arith) (omega arith)) (stands_first condition own behind) (last.reads 0 _ (omega arith) (omega arith)) (omega arith)
      (stands_chain (i + 1 + length e.condition + 1) es (stands_second (effect_part e) later s _ (omega arith)) (omega arith))

  -- and what stands so is what is written
  pub chain_stands : {i : ℕ} {es : List Effect} → Chain w end i es → Stands w i (flatten (map effect_part es)) × (i + length (flatten (map effect_part es)) ≡ end)
  unfolding flatten effect_part
  chain_stands (over same) = (record { reads = λ n j e h. absurd (omega arith) }, omega arith)
  chain_stands {i} (then {e = e} {es = es} count condition own inside rest) =
      let (later, ends) = chain_stands rest in
      let words : List ℕ = fact_words e.condition in
      let last : List ℕ = fact_word e.fact ∷ [] in
      let many : length words ≡ length e.condition = length-map e.condition fact_word in
      let long = part_length e in
      let fact_stands : Stands w (i + 1 + length e.condition) last = stands_word refl own (record { reads = λ n j x h. absurd (omega arith) }) in
      let behind : Stands w (i + 1) (words ++ last) = stands_both words last (i + 1) (omega arith) condition fact_stands in
      let here : Stands w i (effect_part e) = stands_word refl count behind in
      let all = length-append (effect_part e) (flatten (map effect_part es)) in
      (stands_both (effect_part e) (flatten (map effect_part es)) i (omega arith) here later, omega arith)

  -- where the first of them has its fact
  pub chain_fact : (i n : ℕ) → word w i ≡ n → i + 1 + n < end → effect_fact w end i ≡ i + 1 + n
  chain_fact i n count inside = omega arith

  -- none of them runs past the end
  pub chain_whole : {i : ℕ} {es : List Effect} → Chain w end i es → some_of (runs_past w end) (effect_words w end i (end - i)) ≡ false
  unfolding some_of runs_past
  chain_whole {i} (over same) = rw (effect_words_over w end i (end - i) (omega arith))
  chain_whole {i} (then {e = e} count condition own inside rest) =
      rw (
        effect_words_all w end i (omega arith),
        le-ltb (end - (i + 1)) (word w i + 1) (omega arith),
        chain_fact i (length e.condition) count inside,
        chain_whole rest,
      )

  -- they are what is read, where their values are below the limit
  pub chain_effects : {i : ℕ} {es : List Effect} → Chain w end i es
      → ((e : Effect) → Memᴰ e es → (e.fact.value < limits.values) × ((f : Fact) → Memᴰ f e.condition → f.value < limits.values))
      → effects true w i end ≡ es
  unfolding effect_at
  chain_effects {i} (over same) small = effects_none w true i end (omega arith)
  chain_effects {i} (then {e = e} count condition own inside rest) small =
      let (value, values) = small e (Memᴰ.head refl) in
      effects_one w i end (omega arith)
      ∙ rw (
        chain_fact i (length e.condition) count inside,
        facts_read e.condition (i + 1) (i + 1 + length e.condition) values condition refl,
        own,
        fact_of_word e.fact value,
        chain_effects rest (λ d m. small d (Memᴰ.tail m)),
      )

  -- and where none that is read runs past the end, they stand so
  pub whole_chain : (i n : ℕ) → i ≤ end → end - i ≤ n → some_of (runs_past w end) (effect_words w end i (end - i)) ≡ false → Chain w end i (effects true w i end)
  unfolding some_of runs_past effect_at
  whole_chain i zero low few clear = rw (effects_none w true i end (omega arith)) (over {i = i} (omega arith))
  whole_chain i (suc n) low few clear = by_case (ltb i end) refl (whole_chain (effect_fact w end i + 1) n)
    where
      by_case : (b : Bool) → ltb i end ≡ b
          → (effect_fact w end i + 1 ≤ end → end - (effect_fact w end i + 1) ≤ n
          → some_of (runs_past w end) (effect_words w end (effect_fact w end i + 1) (end - (effect_fact w end i + 1))) ≡ false
          → Chain w end (effect_fact w end i + 1) (effects true w (effect_fact w end i + 1) end))
          → Chain w end i (effects true w i end)
      by_case false e later = let past : end ≤ i = ltb-false _ _ e in rw (effects_none w true i end past) (over {i = i} (omega arith))
      by_case true e later =
          let below : i < end = ltb-true _ _ e in
          let (here, rest) = or_neither (ltb (end - (i + 1)) (word w i + 1)) (some_of (runs_past w end) (effect_words w end (effect_fact w end i + 1) (end - (effect_fact w end i + 1)))) (rw (effect_words_all w end i below) at clear) in
          let room : word w i + 1 ≤ end - (i + 1) = ltb-false _ _ here in
          let k : effect_fact w end i ≡ i + 1 + word w i = omega arith in
          let many : length (facts w (i + 1) (effect_fact w end i)) ≡ word w i = facts_length w (i + 1) (effect_fact w end i) ∙ omega arith in
          let there : i + 1 + length (facts w (i + 1) (effect_fact w end i)) ≡ effect_fact w end i = omega arith in
          rw (effects_one w i end below)
          (then {e = effect_at w end i} {es = effects true w (effect_fact w end i + 1) end} (sym many) (facts_stand w (i + 1) (effect_fact w end i)) (rw there (sym (word_of_fact (word w (effect_fact w end i))))) (omega arith)
          (rw there (later (omega arith) (omega arith) rest)))

-- the first place that a function finds at some numbers, by the cases of a loop along them, and that it finds none at any where it finds none
module _ (f : ℕ → Place) where
  pub first_in_nothing : first_in f [] ≡ None
  unfolding first_in
  first_in_nothing = refl

  pub first_in_more : (i : ℕ) (is : List ℕ) → first_in f (i ∷ is) ≡ or_else (f i) (first_in f is)
  unfolding first_in
  first_in_more i is = refl

  pub first_in_nowhere : {i : ℕ} {is : List ℕ} → first_in f is ≡ None → Memᴰ i is → f i ≡ None
  first_in_nowhere clear (Memᴰ.head {x = k} {xs = is} same) = rw same (or_else_nowhere (f k) (first_in f is) (sym (first_in_more k is) ∙ clear)).0
  first_in_nowhere clear (Memᴰ.tail {x = k} {xs = is} later) = first_in_nowhere (or_else_nowhere (f k) (first_in f is) (sym (first_in_more k is) ∙ clear)).1 later

module _ (w : List ℕ) (start end : ℕ) where
  -- effects none of whose facts is bad are in the order of their facts: those from word i on, where `from` is the fact before it
  unfalling_from : (i n from : ℕ) → start ≤ i → end - i ≤ n → (ltb start i ≡ true → from ≡ word w (i - 1)) → (ltb start i ≡ false → from ≡ 0)
      → first_in (effect_place w start end) (effect_words w end i (end - i)) ≡ None → Unfalling from (map (λ e. e.fact) (effects true w i end))
  unfolding effect_place bad_effect effect_at
  unfalling_from i zero from low few behind first clear = rw (effects_none w true i end (omega arith)) nothing
  unfalling_from i (suc n) from low few behind first clear = by_case (ltb i end) refl (unfalling_from (effect_fact w end i + 1) n (word w (effect_fact w end i)))
    where
      k : ℕ
      k = effect_fact w end i

      by_case : (b : Bool) → ltb i end ≡ b
          → (start ≤ k + 1 → end - (k + 1) ≤ n → (ltb start (k + 1) ≡ true → word w k ≡ word w (k + 1 - 1)) → (ltb start (k + 1) ≡ false → word w k ≡ 0)
          → first_in (effect_place w start end) (effect_words w end (k + 1) (end - (k + 1))) ≡ None → Unfalling (word w k) (map (λ e. e.fact) (effects true w (k + 1) end)))
          → Unfalling from (map (λ e. e.fact) (effects true w i end))
      by_case false e later = rw (effects_none w true i end (ltb-false _ _ e)) nothing
      by_case true e later =
          let below : i < end = ltb-true _ _ e in
          let rest : List ℕ = effect_words w end (k + 1) (end - (k + 1)) in
          let all : or_else (effect_place w start end i) (first_in (effect_place w start end) rest) ≡ None =
          sym (first_in_more (effect_place w start end) i rest) ∙ rw (effect_words_all w end i below) at clear in
          let (here, further) = or_else_nowhere (effect_place w start end i) (first_in (effect_place w start end) rest) all in
          let good : bad_effect w start end i ≡ false = when_nowhere (bad_effect w start end i) k (or_else_nowhere (group_place w (i + 1) k) (when (bad_effect w start end i) k) here).1 in
          let falls : (ltb start i && ltb (word w k) (word w (i - 1))) ≡ false =
          (none_of_three (leb (variables w) (fact_of (word w k)).variable) (leb (domain w (fact_of (word w k)).variable) (fact_of (word w k)).value) _ good).2 in
          let is : fact_word (fact_of (word w k)) ≡ word w k = word_of_fact (word w k) in
          let back : k + 1 - 1 ≡ k = omega arith in
          rw (effects_one w i end below)
          (not_below {from = from} {f = fact_of (word w k)} {q = map (λ d. d.fact) (effects true w (k + 1) end)} (rw is (no_lower (ltb start i) refl falls))
          (rw is (later (omega arith) (omega arith) (λ up. ap (word w) (sym back)) (λ down. absurd (omega (arith, ltb-false start (k + 1) down))) further)))
        where
          no_lower : (b : Bool) → ltb start i ≡ b → (b && ltb (word w k) (word w (i - 1))) ≡ false → from ≤ word w k
          no_lower true up falls = omega (arith, behind up, ltb-false (word w k) (word w (i - 1)) falls)
          no_lower false down falls = omega (arith, first down)

  pub clear_unfalling : first_in (effect_place w start end) (effect_words w end start (end - start)) ≡ None → Unfalling 0 (map (λ e. e.fact) (effects true w start end))
  clear_unfalling clear =
      unfalling_from start (end - start) 0 (omega arith) (omega arith) (λ up. absurd (omega (arith, ltb-true start start up))) (λ down. refl) clear
