-- The effects of an action as the code goes through them, one by one. Assumes nothing.
use Rattle.std.specs.Prelude.{ℕ, ◌+◌, ◌-◌, min, cond, List, [], ◌∷◌, map, ltb}
use Rattle.sas.specs.Task.{Assignment, Effect}
use Rattle.sas.specs.Plan.{unconditional}
use Rattle.sheet.specs.declared.group.Group.{Group}
use Rattle.sheet.specs.declared.effects.Effects.{Effects}
use Rattle.sheet.specs.declared.effects.ReadEffect.{ReadEffect}
use Rattle.sheet.specs.declared.effects.EachEffect.{EachEffect}
use Rattle.sheet.specs.declared.effects.WrittenFacts.{WrittenFacts}
use Rattle.sheet.specs.declared.effects.EffectPlaces.{EffectPlaces}
use Rattle.sheet.specs.Layout.{word, effect_start, effect_end, has_conditions, effect_fact}
use Rattle.sheet.specs.Decode.{fact_of, effect_words, effects}
use Rattle.sheet.specs.Between.Group.{group_left}

-- the effects of action a
abbrev pub effects_of : List ℕ → ℕ → Effects
effects_of w a = record { at = effect_start w a; end = effect_end w a; conditional = has_conditions w }

-- the effects that are left
unfoldable pub effects_in : List ℕ → Effects → List Effect
effects_in w e = effects e.conditional w e.at e.end

-- the facts that they may write
unfoldable pub written_in : List ℕ → Effects → Assignment
written_in w e = map (λ d. d.fact) (effects_in w e)

-- those that they write always
unfoldable pub always_in : List ℕ → Effects → Assignment
always_in w e = unconditional (effects_in w e)

-- the effects that are left of a walk along an action's, the facts that those of a walk along their facts may write,
-- and what an effect that is read means
abbrev pub effects_left : EachEffect → List Effect
effects_left e = effects_in e.words.now e.rest

abbrev pub written_left : WrittenFacts → Assignment
written_left e = written_in e.words.now e.rest

abbrev pub effect_read : ReadEffect → Effect
effect_read e = record { condition = group_left e.condition; fact = fact_of e.fact }

-- the words at which the effects that are left stand, where they have conditions
abbrev pub places_left : EffectPlaces → List ℕ
places_left e = effect_words e.words.now e.end e.at (e.end - e.at)

-- where the fact of the first stands
unfoldable pub fact_place : List ℕ → Effects → ℕ
fact_place w e = cond e.conditional (effect_fact w e.end e.at) e.at

-- the word of that fact
unfoldable pub first_written : List ℕ → Effects → ℕ
first_written w e = word w (fact_place w e)

-- the group of its condition's facts
unfoldable pub first_condition : List ℕ → Effects → Group
first_condition w e =
    cond e.conditional
    (record { at = min (e.at + 1) e.end; end = fact_place w e })
    (record { at = e.at; end = e.at })

-- what the first writes always: its fact, where it has no condition
unfoldable pub first_always : List ℕ → Effects → Assignment
first_always w e =
    let g : Group = first_condition w e in
    cond (ltb g.at g.end) [] (fact_of (first_written w e) ∷ [])

-- all but the first; where there is none, none is left
unfoldable pub rest_effects : List ℕ → Effects → Effects
rest_effects w e =
    cond (ltb e.at e.end)
    (record { at = min (fact_place w e + 1) e.end; end = e.end; conditional = e.conditional })
    e
