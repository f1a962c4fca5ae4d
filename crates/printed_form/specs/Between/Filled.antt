-- Lines that are what they must be, by their data: from some lines that are due to those due behind them, with the
-- numbers that are kept. Assumes nothing.
use Rattle.std.specs.Prelude.{ℕ, ◌≡◌, List, [], ◌∷◌, ◌++◌}
use Rattle.form.specs.Between.Form.{Due}
use Rattle.planner.specs.Printed.{Line}
use Rattle.planner.specs.Broken.{OneLine}
use Rattle.printed_form.specs.Between.Datum.{Datum, line, adds, keeps}

-- a line that answers what is due, and the rest
pub record Answered (d : Due) (l : Line) (xs : List ℕ) (Rest : List Due → List ℕ → Type 0) : Type 0 where
  pub datum : Datum d
  pub is : line d datum ≡ l
  pub one_line : OneLine l.bytes
  pub others : List ℕ
  pub kept : xs ≡ keeps d datum ++ others
  pub rest : Rest (adds d datum) others

-- these lines take from what is due to what is due then
abbrev pub Takes : List Line → List Due → List ℕ → List Due → Type 0
Takes [] ds xs ds' = (ds ≡ ds') × (xs ≡ [])
Takes (l ∷ ls) [] xs ds' = ⊥
Takes (l ∷ ls) (d ∷ ds) xs ds' = Answered d l xs (λ more ys. Takes ls (more ++ ds) ys ds')

-- these lines are all that is due
abbrev pub Fills : List Due → List Line → List ℕ → Type 0
Fills ds ls xs = Takes ls ds xs []
