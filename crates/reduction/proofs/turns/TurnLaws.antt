-- What each turn of the search does, by its cases: at the end of the plan, where it goes no further, and where it goes on with both turns at the next step.
-- Each by unfolding `turn` once. Assumes nothing.
use mathlib.Core.Path.{◌≡◌, refl}
use mathlib.Core.Bool.{true, false, not, and-false}
use mathlib.Core.List.{List, [], ◌∷◌}
use lib.ListN.{get_or}
use Rattle.sas.specs.Task.{State, Action}
use Rattle.sas.specs.Plan.{applicable}
use Rattle.reduction.specs.Reduction.{Reduction, kept}
use Rattle.reduction.specs.Between.Order.{lower}
use Rattle.reduction.specs.Between.Search.{Visit, Tests, struck, done, handed, turn, first_visit, search}
use Rattle.reduction.specs.Between.Search.Turn.{strike, keep}

-- both turns at one step: the striking turn, then the keeping turn, handed the best that it found
abbrev pub turns : Tests → List Action → List Action → Visit → Reduction
turns T p rest v = turn T p keep rest (handed v (turn T p strike rest v))

pub search_turns : (T : Tests) (s : State) (p : List Action) → search T s p ≡ turns T p p (first_visit T s p)
unfolding search
search_turns T s p = refl

module _ (T : Tests) (p : List Action) (v : Visit) where
  -- at the end of the plan the striking turn takes what is kept so far, where that is lower and the state will do
  pub strike_met : lower (kept v.so_far p) (kept v.best p) ≡ true → T.ends v.state ≡ true → turn T p strike [] v ≡ v.so_far
  unfolding turn
  strike_met h e = rw (h, e)

  pub strike_unmet : T.ends v.state ≡ false → turn T p strike [] v ≡ v.best
  unfolding turn
  strike_unmet e = rw (e, and-false)

  pub strike_not_lower : lower (kept v.so_far p) (kept v.best p) ≡ false → turn T p strike [] v ≡ v.best
  unfolding turn
  strike_not_lower h = rw h

  pub keep_end : turn T p keep [] v ≡ v.best
  unfolding turn
  keep_end = refl

module _ (T : Tests) (p : List Action) (a : Action) (q : List Action) (v : Visit) where
  -- a flagged step has only the keeping turn
  pub strike_flagged : get_or T.flags v.index false ≡ true → turn T p strike (a ∷ q) v ≡ v.best
  unfolding turn
  strike_flagged h = rw (h, turn)

  pub strike_barred : T.may_strike v ≡ false → turn T p strike (a ∷ q) v ≡ v.best
  unfolding turn
  strike_barred h = rw (h, and-false (not (get_or T.flags v.index false)), turn)

  pub strike_goes_on : get_or T.flags v.index false ≡ false → T.may_strike v ≡ true → turn T p strike (a ∷ q) v ≡ turns T p q (struck v)
  unfolding turn
  strike_goes_on h e = rw (h, e, turn)

  pub keep_stuck : applicable v.state a ≡ false → turn T p keep (a ∷ q) v ≡ v.best
  unfolding turn
  keep_stuck h = rw (h, turn)

  pub keep_barred : T.may_keep v ≡ false → turn T p keep (a ∷ q) v ≡ v.best
  unfolding turn
  keep_barred h = rw (h, and-false (applicable v.state a), turn)

  pub keep_goes_on : applicable v.state a ≡ true → T.may_keep v ≡ true → turn T p keep (a ∷ q) v ≡ turns T p q (done a v)
  unfolding turn
  keep_goes_on h e = rw (h, e, turn)
