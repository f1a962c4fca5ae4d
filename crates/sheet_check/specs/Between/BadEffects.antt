-- The place of the first bad fact of an action's effects, as they are left. Assumes nothing.
use Rattle.std.specs.Prelude.{ℕ, ◌-◌, ◌≡◌, cond, List}
use Rattle.refusal.specs.Place.{Place}
use Rattle.sheet.specs.declared.effects.Effects.{Effects}
use Rattle.sheet.specs.Decode.{effect_words}
use Rattle.sheet.specs.Causes.{group_place, effect_place, first_in}

abbrev pub BadInEffects : List ℕ → Effects → Place → Type 0
BadInEffects w e p =
    p
    ≡ cond e.conditional
    (first_in (effect_place w e.at e.end) (effect_words w e.end e.at (e.end - e.at)))
    (group_place w e.at e.end)
