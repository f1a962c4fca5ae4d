-- The facts of a group in a state, from the last, and what an action's effects write there, by the cases of a loop along them: none is left, or one more is.
-- Assumes nothing.
use Prim.Native.Nat.{ℕ, ◌+◌, ◌≤◌}
use native.Mathlib.Omega.{arith}
use mathlib.Core.Path.{◌≡◌, refl, sym, ◌∙◌, ap}
use mathlib.Core.Bool.{Bool, true, false, not}
use mathlib.Core.Option.{none, some}
use Rattle.std.specs.Prelude.{Option, None, Some, is_some, is_none}
use mathlib.Core.List.{List, [], ◌∷◌, ◌++◌, reverse, reverse-append}
use lib.ListN.{length, set, take, drop, replicate, length-replicate}
use lib.Seq.{sets, sets-eq, take_at}
use Rattle.sas.specs.Task.{Assignment, State, Effect}
use Rattle.sas.specs.Plan.{holds, assign, acting}
use Rattle.sas.proofs.FactLaws.{first_failing_nothing, first_failing_more, first_failing_here, none_fails, satisfies_reversed}
use Rattle.sas.proofs.EffectLaws.{acting_nothing, acting_more, acting_less, each_acts, each_written}
use Rattle.sheet.specs.Limits.{limits}
use Rattle.sheet.specs.declared.effects.Effects.{Effects}
use Rattle.sheet.specs.Decode.{fact_of, facts, effects}
use Rattle.sheet.specs.Between.Effects.{effects_in, written_in}
use Rattle.step.specs.Between.Failing.{failing, last_failing, Tests}

-- whether there is none, as the library tells it
pub is_none_told : (r : Option ℕ) (b : Bool) → is_some r ≡ not b → is_none r ≡ b
is_none_told r true told = ap not told
is_none_told r false told = ap not told

module _ (before s : State) (es : List Effect) where
  -- no effect is left
  pub acting_over : es ≡ [] → assign s (acting before es) ≡ s
  unfolding assign
  acting_over over = rw (over, acting_nothing before)

  -- one comes next, whose condition q holds there or fails
  module _ (q : Assignment) (x : ℕ) (later : List Effect) (first : es ≡ record { condition = q; fact = fact_of x } ∷ later) (r : Option ℕ) (tested : Tests before q r) where
    abbrev here : Effect
    here = record { condition = q; fact = fact_of x }

    pub acting_next : is_none r ≡ true → assign s (acting before es) ≡ assign (set s (fact_of x).variable (fact_of x).value) (acting before later)
    unfolding assign
    acting_next passed = rw (first, acting_more before here later (sym tested.held ∙ passed))

    pub acting_not : is_none r ≡ false → assign s (acting before es) ≡ assign s (acting before later)
    acting_not failed = rw (first, acting_less before here later (sym tested.held ∙ failed))

-- effects without conditions all act
pub all_acting : (w : List ℕ) (s : State) (e : Effects) → e.conditional ≡ false → acting s (effects_in w e) ≡ written_in w e
unfolding written_in effects_in effects
all_acting w s e plain = rw plain (each_acts s (facts w e.at e.end) ∙ sym (each_written (facts w e.at e.end)))

-- a state that was copied to the front of an array is read there as it was
pub acted_beside : (w s kept beside after : List ℕ) (e : Effects) (n : ℕ) → n ≡ length s → length s ≤ limits.variables
    → kept ≡ sets (replicate limits.variables 0) 0 s → beside ≡ take n kept → after ≡ assign s (acting beside (effects_in w e))
    → after ≡ assign s (acting s (effects_in w e))
acted_beside w s kept beside after e n same few copied lent acted =
    let blank : State = replicate limits.variables 0 in
    let past : 0 + length s ≡ length s = omega arith in
    let room : 0 + length s ≤ length blank = rw length-replicate (omega arith) in
    let is : beside ≡ s = lent ∙ rw (copied, sets-eq s blank 0 room, past) (take_at s (drop (length s) blank) n (sym same)) in
    rw is at acted

-- facts from the last: it comes, and then those in front of it
module _ (s : State) (q : Assignment) where
  pub failing_over : q ≡ [] → last_failing s q ≡ none
  unfolding last_failing
  failing_over over = rw over (first_failing_nothing s)

  module _ (others : Assignment) (x : ℕ) (last : q ≡ others ++ (fact_of x ∷ [])) where
    from_back : reverse q ≡ fact_of x ∷ reverse others
    from_back = rw last (reverse-append others (fact_of x ∷ []))

    pub failing_here : holds s (fact_of x) ≡ false → last_failing s q ≡ some (fact_of x)
    unfolding last_failing
    failing_here fails = rw from_back (first_failing_here s _ _ fails)

    pub failing_more : holds s (fact_of x) ≡ true → last_failing s q ≡ last_failing s others
    unfolding last_failing
    failing_more held = rw from_back (first_failing_more s _ _ held)

none_told : (r : Option ℕ) → is_none r ≡ elim (failing r) [ none ↦ true | some f ↦ false ]
none_told None = refl
none_told (Some x) = refl

-- what tells the last failing fact tells whether the assignment holds
pub tests : (s : State) (q : Assignment) (r : Option ℕ) → failing r ≡ last_failing s q → Tests s q r
unfolding last_failing
tests s q r found =
    record {
      held = none_told r ∙ rw found (sym (none_fails s (reverse q))) ∙ satisfies_reversed s q;
      stopped = found;
    }
