-- One trial from the state before its step. Assumes nothing.
use Rattle.std.specs.Prelude.{ℕ, ◌+◌, ◌≡◌, Bool, true, false, List, ◌∷◌, ◌++◌, get_or, take, drop}
use Rattle.sas.specs.Plan.{satisfies}
use Rattle.tally.specs.declared.Tally.{Tally}
use Rattle.tally.specs.Tally.{nothing}
use Rattle.sheet.specs.Decode.{goal}
use Rattle.reduction.specs.Reduction.{Reduction}
use Rattle.reduction.specs.Trials.{walk, after}
use Rattle.plan.specs.Valid.{steps}
use Rattle.trial.specs.Between.Walk.{Fits, Balanced}

pub record MakesTrial (w l : List ℕ) (i : ℕ) (m : Reduction) (s : List ℕ)
    (succeeds : Bool) (left : Reduction) (struck : Tally) : Type 0 where
  pub goal_met : succeeds ≡ satisfies (after s (steps w (drop (i + 1) l)) (drop (i + 1) m)) (goal w)
  pub flags : left ≡ take i m ++ (false ∷ walk s (steps w (drop (i + 1) l)) (drop (i + 1) m))
  pub balanced : get_or m i false ≡ true → Fits w l m nothing → Balanced w l m left nothing struck
