-- The place of cause 6: in the first group that has a bad fact. What the code calls is a variable here, with what is known of it as a premise. Assumes nothing.
use Rattle.std.specs.Prelude.{None, Some, MatchOption}
use Rattle.std.specs.Bool.{then_some}
use Prim.Native.Nat.{ℕ, zero, suc, ◌+◌, ◌-◌, ◌/◌, ◌%◌, ◌<◌}
use mathlib.Core.Path.{◌≡◌, refl, ◌∙◌}
use mathlib.Core.Logic.{⊎_elim}
use mathlib.Core.Bool.{Bool, true, false, ◌&&◌}
use mathlib.Core.List.{List, [], ◌∷◌, Memᴰ}
use mathlib.Core.List.Memᴰ
use lib.Dec.{ltb}
use borrow.Author.Tests.{lt-leb, ltb-true, ltb-false}
use Rattle.refusal.specs.Place.{Place}
use Rattle.refusal.specs.Place.{when, or_else, first_of}
use Rattle.sheet.specs.declared.group.Group.{Group}
use Rattle.sheet.specs.declared.effects.Effects.{Effects}
use Rattle.sheet.specs.Limits.{limits}
use Rattle.sheet.specs.Layout.{word, variables, actions, domain, effect_start, effect_end, effect_fact}
use Rattle.sheet.specs.Decode.{effect_words}
use Rattle.sheet.specs.Between.Group.{goal_group, needed_group}
use Rattle.sheet.specs.Between.Effects.{effects_of}
use Rattle.sheet.specs.Causes.{group_place, bad_effect, effect_place, effects_place, first_in, action_place, fact_place}
use Rattle.sheet.proofs.EffectLaws.{effect_words_over, effect_words_next}
use Rattle.sheet.proofs.ChainLaws.{first_in_nothing, first_in_more}
use Rattle.sheet_check.specs.Between.BadEffects.{BadInEffects}

-- the place p is that of the first bad fact of a group
abbrev pub BadIn : List ℕ → Group → Place → Type 0
BadIn w g p = p ≡ group_place w g.at g.end

-- a place where a test holds, as the library has it
some_when : (b : Bool) (k : ℕ) → then_some b k ≡ when b k
some_when true k = refl
some_when false k = refl

-- what the library says of a second place where there is no first
pub or_else_told : {P : Type 0} (p q r : Place) → MatchOption p P (λ k. r ≡ Some k) → (P → r ≡ q) → r ≡ or_else p q
or_else_told None q r told second = second told
or_else_told (Some k) q r told second = told

module _ {P : Type 0} (w : List ℕ) (p r : Place) (told : MatchOption p P (λ k. r ≡ Some k)) where
  -- the goal, or else the actions
  pub fact_placed : (g : Group) → g ≡ goal_group w → BadIn w g p → (P → r ≡ first_of (action_place w) 0 (actions w)) → r ≡ fact_place w
  unfolding fact_place
  fact_placed g group found second = let there : BadIn w (goal_group w) p = rw group at found in or_else_told p _ r told second ∙ rw there

  -- the precondition of an action, or else its effects
  pub action_placed : (a : ℕ) (g : Group) (e : Effects) → g ≡ needed_group w a → e ≡ effects_of w a → BadIn w g p → (P → BadInEffects w e r) → r ≡ action_place w a
  unfolding action_place effects_place
  action_placed a g e group effects found second =
      let there : BadIn w (needed_group w a) p = rw group at found in
      or_else_told p (effects_place w (effect_start w a) (effect_end w a)) r told (λ post. rw effects at (second post)) ∙ rw there

  -- the condition of the effect of edition 2 at word i, or else its own fact, at word k
  pub effect_placed : (from end i k : ℕ) → k ≡ effect_fact w end i → BadIn w (record { at = i + 1; end = k }) p → (P → r ≡ then_some (bad_effect w from end i) k)
      → r ≡ effect_place w from end i
  unfolding effect_place
  effect_placed from end i k there found second =
      or_else_told p (when (bad_effect w from end i) k) r told (λ post. second post ∙ some_when (bad_effect w from end i) k) ∙ rw (found, there)

-- an effect of edition 2 whose fact is known is bad just where that fact falls
module _ (w : List ℕ) (from end i k fact : ℕ) (there : k ≡ effect_fact w end i) (read : fact ≡ word w k) where
  pub bad_if_falls : (v d : ℕ) → v ≡ variables w → fact / limits.values < v → d ≡ domain w (fact / limits.values) → fact % limits.values < d
      → bad_effect w from end i ≡ (ltb from i && ltb fact (word w (i - 1)))
  unfolding bad_effect
  bad_if_falls v d counted known sized inside = rw (← there, ← read, ← counted, lt-leb v (fact / limits.values) known, ← sized, lt-leb d (fact % limits.values) inside)

-- the effects of edition 2 that are left, by the words at which they stand: each stands before the end
places_before : (w : List ℕ) (end i n k : ℕ) → Memᴰ k (effect_words w end i n) → k < end
unfolding effect_words
places_before w end i zero k m = absurd (Memᴰ.not-nil m)
places_before w end i (suc n) k m = by_case (ltb i end) refl (places_before w end (effect_fact w end i + 1) n k)
  where
    by_case : (b : Bool) → ltb i end ≡ b → (Memᴰ k (effect_words w end (effect_fact w end i + 1) n) → k < end) → k < end
    by_case true e later = ⊎_elim (λ here. rw here (ltb-true i end e)) later (Memᴰ.cases_cons (rw (effect_words_next w end i n (ltb-true i end e)) at m))
    by_case false e later = absurd (Memᴰ.not-nil (rw (effect_words_over w end i (suc n) (ltb-false i end e)) at m))

pub places_below : (w : List ℕ) (end i n : ℕ) (is : List ℕ) → is ≡ effect_words w end i n → (k : ℕ) → Memᴰ k is → k < end
places_below w end i n is same k m = places_before w end i n k (rw same at m)

-- none is left, or the first of them has a bad fact or none
module _ (f : ℕ → Place) (is : List ℕ) where
  pub places_clear : is ≡ [] → first_in f is ≡ None
  places_clear over = rw over (first_in_nothing f)

  module _ (i : ℕ) (later : List ℕ) (p : Place) (first : is ≡ i ∷ later) (found : p ≡ f i) where
    pub place_bad : (k : ℕ) → p ≡ Some k → first_in f is ≡ Some k
    place_bad k e = rw (first, first_in_more f i later, ← found, e)

    pub place_clear : p ≡ None → first_in f is ≡ first_in f later
    place_clear e = rw (first, first_in_more f i later, ← found, e)

-- effects with conditions are looked through one by one, others as a group
module _ (w : List ℕ) (e : Effects) (p : Place) where
  pub bad_conditional : e.conditional ≡ true → p ≡ first_in (effect_place w e.at e.end) (effect_words w e.end e.at (e.end - e.at)) → BadInEffects w e p
  bad_conditional h found = rw h found

  pub bad_plain : e.conditional ≡ false → BadIn w (record { at = e.at; end = e.end }) p → BadInEffects w e p
  bad_plain h found = rw h found
