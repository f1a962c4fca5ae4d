-- What the walk along a plan hands back. Not to be believed: the laws of Fault tie it to what the check of a plan
-- promises. Assumes nothing.
use Rattle.std.specs.Prelude.{◌≡◌, List, map, ℕ, None, Some, Result, Ok, Err}
use Rattle.refusal.specs.Place.{Place}
use Rattle.sheet.specs.Layout.{cost_word}
use Rattle.sheet.specs.Decode.{goal}
use Rattle.tally.specs.Tally.{nothing, after}
use Rattle.tally.specs.declared.Tally.{Tally}
use Rattle.plan.specs.Valid.{steps}
use Rattle.plan.specs.Between.Fault.{fault, final}

-- where a walk met a fault, if it did
abbrev pub fault_met : Result Tally ℕ → Place
fault_met (Ok t) = None
fault_met (Err k) = Some k

pub record Walks (w l before : List ℕ) (r : Result Tally ℕ) (after_it : List ℕ) : Type 0 where
  pub place : fault_met r ≡ fault (goal w) before 1 (steps w l)
  pub tally : (t : Tally) → r ≡ Ok t → t ≡ after nothing (map (cost_word w) l)
  pub values : (t : Tally) → r ≡ Ok t → after_it ≡ final before (steps w l)
