-- One action in a lent state. Assumes nothing.
use Rattle.std.specs.Prelude.{ℕ, ◌≡◌, Bool, cond, List}
use Rattle.sas.specs.Plan.{applicable, apply}
use Rattle.sheet.specs.Decode.{action}

-- action a of the sheet w is done in the state `before` just where it is applicable there
pub record Advances (w before : List ℕ) (a : ℕ) (done : Bool) (after : List ℕ) : Type 0 where
  pub applied : done ≡ applicable before (action w a)
  pub state : after ≡ cond done (apply before (action w a)) before
