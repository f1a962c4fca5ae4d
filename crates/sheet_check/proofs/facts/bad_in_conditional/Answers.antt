-- `bad_in_conditional` meets its contract: an effect that is taken has a bad fact or not, and none is left where none comes. Assumes nothing.
use mathlib.Core.Path.{refl, sym, ◌∙◌, ap}
use mathlib.Core.List.Memᴰ
use Rattle.sheet.specs.Between.Effects.{places_left}
use Rattle.sheet_check.proofs.BadFactLaws.{places_below, places_clear, place_bad, place_clear}
use Rattle.sheet_check.proofs.facts.bad_in_conditional.Goals as goal

pub loop-i-init : goal.loop-i-init
loop-i-init c = ((tt, tt), refl, places_below c.args.w.now c.args.end c.args.from _ _ (ap places_left c.into_iter-i-iterator.ensures.into_iter_gives ∙ c.new-i-items.ensures))

pub bad_in_effect-requires : goal.bad_in_effect-requires
bad_in_effect-requires c = c.loop-i.invariant.2 _ (rw c.in-Some.ensures.steps (Memᴰ.head refl))

pub returns-in-Some-bad_in_effect : goal.returns-in-Some-bad_in_effect
returns-in-Some-bad_in_effect c =
    rw (← c.new-i-items.ensures, ← c.into_iter-i-iterator.ensures.into_iter_gives)
    (sym (place_bad _ _ _ _ _ c.in-Some.ensures.steps c.bad_in_effect.ensures _ c.in-Some-bad_in_effect.is) ∙ c.loop-i.invariant.1)

pub loop-i-preserved : goal.loop-i-preserved
loop-i-preserved c = (
  (tt, tt),
  sym (place_clear _ _ _ _ _ c.in-Some.ensures.steps c.bad_in_effect.ensures c.in_default.is) ∙ c.loop-i.invariant.1,
  λ k m. c.loop-i.invariant.2 k (rw c.in-Some.ensures.steps (Memᴰ.tail m)),
)

pub returns : goal.returns
returns c =
    rw (← c.new-i-items.ensures, ← c.into_iter-i-iterator.ensures.into_iter_gives)
    (sym (places_clear _ _ c.in-None.ensures.steps.0) ∙ c.loop-i.invariant.1)
