-- An action's effects by the cases of a loop along them: none is left, or one more is; and that they are those of the action. In edition 2 the words at which
-- effects stand are the same however many more than there is room for are asked. By the laws of the facts among words. Assumes nothing.
use Prim.Native.Nat.{ℕ, zero, suc, ◌+◌, ◌-◌, ◌≤◌, ◌<◌, min}
use native.Mathlib.Omega.{arith}
use mathlib.Core.Path.{◌≡◌, refl, sym, ◌∙◌, ap}
use mathlib.Core.Bool.{Bool, true, false, cond}
use mathlib.Core.List.{List, [], ◌∷◌, ◌++◌}
use lib.ListN.{length}
use lib.Dec.{ltb}
use borrow.Author.Tests.{lt-ltb, le-ltb, ltb-true, ltb-false}
use Rattle.sas.specs.Task.{Fact, State, Effect, always}
use Rattle.sas.specs.Plan.{assign, acting, apply, unconditional, written, written_always}
use Rattle.sheet.specs.declared.group.Group.{Group}
use Rattle.sheet.specs.declared.effects.Effects.{Effects}
use Rattle.sheet.specs.Layout.{word, effect_fact}
use Rattle.sheet.specs.Decode.{fact_of, effect_words, effect_at, effects, action}
use Rattle.sheet.specs.Between.Group.{facts_in}
use Rattle.sheet.specs.Between.Effects.{effects_of, effects_in, written_in, always_in, fact_place, first_written, first_condition, first_always, rest_effects}
use Rattle.sheet.proofs.TableLaws.{facts_over, facts_next}
use Rattle.sheet.proofs.GroupLaws.{group_over, group_next}

module _ (w : List ℕ) (end : ℕ) where
  -- none stands from the end on
  pub effect_words_over : (i n : ℕ) → end ≤ i → effect_words w end i n ≡ []
  unfolding effect_words
  effect_words_over i zero h = refl
  effect_words_over i (suc n) h = rw (le-ltb i end h, effect_words)

  -- before the end, one stands here
  pub effect_words_next : (i n : ℕ) → i < end → effect_words w end i (suc n) ≡ i ∷ effect_words w end (effect_fact w end i + 1) n
  unfolding effect_words
  effect_words_next i n h = rw (lt-ltb i end h, effect_words)

  -- as many are asked as there is room for, or more
  pub effect_words_enough : (i n : ℕ) → end - i ≤ n → effect_words w end i n ≡ effect_words w end i (end - i)
  effect_words_enough i n h = same i n (end - i) h (omega arith)
    where
      same : (i n m : ℕ) → end - i ≤ n → end - i ≤ m → effect_words w end i n ≡ effect_words w end i m
      same i zero m h k = effect_words_over i zero (omega arith) ∙ sym (effect_words_over i m (omega arith))
      same i (suc n) zero h k = effect_words_over i (suc n) (omega arith) ∙ sym (effect_words_over i zero (omega arith))
      same i (suc n) (suc m) h k = by_case (ltb i end) refl (same (effect_fact w end i + 1) n m)
        where
          by_case : (b : Bool) → ltb i end ≡ b
              → (end - (effect_fact w end i + 1) ≤ n → end - (effect_fact w end i + 1) ≤ m
              → effect_words w end (effect_fact w end i + 1) n ≡ effect_words w end (effect_fact w end i + 1) m)
              → effect_words w end i (suc n) ≡ effect_words w end i (suc m)
          by_case true e later =
              let below : i < end = ltb-true _ _ e in
              effect_words_next i n below ∙ ap (λ l. i ∷ l) (later (omega arith) (omega arith)) ∙ sym (effect_words_next i m below)
          by_case false e later =
              let past : end ≤ i = ltb-false _ _ e in
              effect_words_over i (suc n) past ∙ sym (effect_words_over i (suc m) past)

  -- all that stand from word i on
  pub effect_words_all : (i : ℕ) → i < end → effect_words w end i (end - i) ≡ i ∷ effect_words w end (effect_fact w end i + 1) (end - (effect_fact w end i + 1))
  effect_words_all i h =
      let more : end - i ≡ suc (end - i - 1) = omega arith in
      ap (effect_words w end i) more ∙ effect_words_next i (end - i - 1) h
      ∙ ap (λ l. i ∷ l) (effect_words_enough (effect_fact w end i + 1) (end - i - 1) (omega arith))

  -- the first of them, and those behind it, which are fewer
  module _ (i next : ℕ) (h : i < end) (behind : next ≡ min (effect_fact w end i + 1) end) where
    pub effect_words_first : effect_words w end i (end - i) ≡ i ∷ effect_words w end next (end - next)
    effect_words_first = effect_words_all i h ∙ ap (λ l. i ∷ l) (by_case (ltb (effect_fact w end i + 1) end) refl)
      where
        by_case : (b : Bool) → ltb (effect_fact w end i + 1) end ≡ b
            → effect_words w end (effect_fact w end i + 1) (end - (effect_fact w end i + 1)) ≡ effect_words w end next (end - next)
        by_case true e = let same : next ≡ effect_fact w end i + 1 = omega (arith, behind, ltb-true _ _ e) in rw same
        by_case false e =
            let past : end ≤ effect_fact w end i + 1 = ltb-false _ _ e in
            effect_words_over (effect_fact w end i + 1) _ past ∙ sym (effect_words_over next _ (omega (arith, behind)))

    pub fewer_words : length (effect_words w end next (end - next)) < length (effect_words w end i (end - i))
    fewer_words = rw effect_words_first (omega arith)

module _ (w : List ℕ) where
  pub effects_none : (conditional : Bool) (i end : ℕ) → end ≤ i → effects conditional w i end ≡ []
  unfolding effects
  effects_none true i end h = rw (effect_words_over w end i (end - i) h)
  effects_none false i end h = rw (facts_over w i end h)

  pub effects_one : (i end : ℕ) → i < end → effects true w i end ≡ effect_at w end i ∷ effects true w (effect_fact w end i + 1) end
  unfolding effects
  effects_one i end h = rw (effect_words_all w end i h)

  pub effects_fact : (i end : ℕ) → i < end → effects false w i end ≡ always (fact_of (word w i)) ∷ effects false w (i + 1) end
  unfolding effects
  effects_fact i end h = rw (facts_next w i end h)

  -- at most at the end
  effects_clamped : (c : Bool) (x end : ℕ) → effects c w (min x end) end ≡ effects c w x end
  effects_clamped c x end = by_case (ltb x end) refl
    where
      by_case : (b : Bool) → ltb x end ≡ b → effects c w (min x end) end ≡ effects c w x end
      by_case true e = let same : min x end ≡ x = omega (arith, ltb-true x end e) in rw same
      by_case false e =
          let past : end ≤ x = ltb-false _ _ e in
          effects_none c (min x end) end (omega arith) ∙ sym (effects_none c x end past)

  -- the first of what is left, and the rest
  effects_split : (c : Bool) (at end : ℕ) → at < end
      → let e : Effects = record { at = at; end = end; conditional = c } in
      effects c w at end
      ≡ record { condition = facts_in w (first_condition w e); fact = fact_of (first_written w e) } ∷ effects c w (min (fact_place w e + 1) end) end
  unfolding first_written first_condition fact_place facts_in effect_at
  effects_split true at end h =
      let here : min (at + 1) end ≡ at + 1 = omega arith in
      rw (here, effects_clamped true (effect_fact w end at + 1) end) (effects_one at end h)
  effects_split false at end h = rw (effects_clamped false (at + 1) end, facts_over w at at (omega arith)) (effects_fact at end h)

-- where the fact of the first stands, and its condition, with conditions and without
module _ (w : List ℕ) (e : Effects) where
  -- what is left where there is one
  pub rest_effects_some : e.at < e.end → rest_effects w e ≡ record { at = min (fact_place w e + 1) e.end; end = e.end; conditional = e.conditional }
  unfolding rest_effects
  rest_effects_some h = rw (lt-ltb e.at e.end h)

  -- and where there is none
  pub rest_effects_none : e.end ≤ e.at → rest_effects w e ≡ e
  unfolding rest_effects
  rest_effects_none h = rw (le-ltb e.at e.end h)

  pub conditional_fact : e.conditional ≡ true → fact_place w e ≡ effect_fact w e.end e.at
  unfolding fact_place
  conditional_fact h = rw h

  pub plain_fact : e.conditional ≡ false → fact_place w e ≡ e.at
  unfolding fact_place
  plain_fact h = rw h

  pub conditional_group : e.conditional ≡ true → first_condition w e ≡ record { at = min (e.at + 1) e.end; end = fact_place w e }
  unfolding first_condition
  conditional_group h = rw h

  pub plain_group : e.conditional ≡ false → first_condition w e ≡ record { at = e.at; end = e.at }
  unfolding first_condition
  plain_group h = rw h

module _ (w : List ℕ) (e : Effects) (k : ℕ) where
  -- the condition's group, before the end and past it
  pub group_before : e.conditional ≡ true → e.at < e.end → k ≡ fact_place w e → ◌≡◌ {A = Group} (record { at = e.at + 1; end = k }) (first_condition w e)
  group_before h below there =
      let here : min (e.at + 1) e.end ≡ e.at + 1 = omega arith in
      sym (conditional_group w e h ∙ rw (here, there))

  pub group_past : e.conditional ≡ true → e.end ≤ e.at → k ≡ fact_place w e → ◌≡◌ {A = Group} (record { at = e.end; end = k }) (first_condition w e)
  group_past h past there =
      let here : min (e.at + 1) e.end ≡ e.end = omega arith in
      sym (conditional_group w e h ∙ rw (here, there))

  -- what is left behind the first, whose fact stands before the end or at it
  pub rest_before : e.at < e.end → k ≡ fact_place w e → k < e.end
      → ◌≡◌ {A = Effects} (record { at = k + 1; end = e.end; conditional = e.conditional }) (rest_effects w e)
  rest_before below there inside =
      let here : min (fact_place w e + 1) e.end ≡ k + 1 = omega arith in
      sym (rest_effects_some w e below ∙ rw here)

  pub rest_past : e.at < e.end → k ≡ fact_place w e → e.end ≤ k
      → ◌≡◌ {A = Effects} (record { at = e.end; end = e.end; conditional = e.conditional }) (rest_effects w e)
  rest_past below there past =
      let here : min (fact_place w e + 1) e.end ≡ e.end = omega arith in
      sym (rest_effects_some w e below ∙ rw here)

-- the fact of the first stands behind where it begins
fact_behind : (w : List ℕ) (c : Bool) (at end : ℕ) → at < end → at ≤ fact_place w (record { at = at; end = end; conditional = c })
unfolding fact_place
fact_behind w true at end h = omega arith
fact_behind w false at end h = omega arith

module _ (w : List ℕ) (e : Effects) where
  pub effects_over : e.end ≤ e.at → effects_in w e ≡ []
  unfolding effects_in
  effects_over h = effects_none w e.conditional e.at e.end h

  pub effects_next : e.at < e.end
      → effects_in w e ≡ record { condition = facts_in w (first_condition w e); fact = fact_of (first_written w e) } ∷ effects_in w (rest_effects w e)
  unfolding effects_in
  effects_next h = rw (rest_effects_some w e h) (effects_split w e.conditional e.at e.end h)

  -- the same of the facts that they may write
  pub written_over : e.end ≤ e.at → written_in w e ≡ []
  unfolding written_in
  written_over h = rw (effects_over h)

  pub written_next : e.at < e.end → written_in w e ≡ fact_of (first_written w e) ∷ written_in w (rest_effects w e)
  unfolding written_in
  written_next h = rw (effects_next h)

  -- a walk along either leaves fewer
  pub fewer_effects : e.at < e.end → length (effects_in w (rest_effects w e)) < length (effects_in w e)
  fewer_effects h = rw (effects_next h) (omega arith)

  pub fewer_written : e.at < e.end → length (written_in w (rest_effects w e)) < length (written_in w e)
  fewer_written h = rw (written_next h) (omega arith)

  -- and of those that they write always
  pub always_over : e.end ≤ e.at → always_in w e ≡ []
  unfolding always_in unconditional
  always_over h = rw (effects_over h)

  pub always_next : e.at < e.end → always_in w e ≡ first_always w e ++ always_in w (rest_effects w e)
  unfolding always_in first_always unconditional
  always_next h = rw (effects_next h) (by_case (ltb (first_condition w e).at (first_condition w e).end) refl)
    where
      g : Group
      g = first_condition w e

      f : Fact
      f = fact_of (first_written w e)

      later : List Effect
      later = effects_in w (rest_effects w e)

      by_case : (b : Bool) → ltb g.at g.end ≡ b
          → unconditional (record { condition = facts_in w g; fact = f } ∷ later) ≡ cond b [] (f ∷ []) ++ unconditional later
      by_case true some = rw (group_next w g (ltb-true _ _ some))
      by_case false none = rw (group_over w g (ltb-false _ _ none))

  -- fewer words are left
  pub effects_shorter : (r : Effects) → r ≡ rest_effects w e → e.at < e.end → r.end - r.at < e.end - e.at
  effects_shorter r same h = rw (same, rest_effects_some w e h) (omega (arith, fact_behind w e.conditional e.at e.end h))

module _ (w : List ℕ) (a : ℕ) where
  pub effects_are : effects_in w (effects_of w a) ≡ (action w a).effects
  unfolding effects_in action
  effects_are = refl

  pub effects_always : always_in w (effects_of w a) ≡ written_always (action w a)
  unfolding always_in effects_in written_always action
  effects_always = refl

  pub effects_written : written_in w (effects_of w a) ≡ written (action w a)
  unfolding written_in effects_in written action
  effects_written = refl

  -- to do an action is to assign what its effects write
  pub effects_applied : (s : State) → apply s (action w a) ≡ assign s (acting s (effects_in w (effects_of w a)))
  unfolding effects_in apply action
  effects_applied s = refl
