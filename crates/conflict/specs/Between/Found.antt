-- The place of cause 16, told of a sheet that meets none of the causes before it. Assumes nothing.
use Rattle.std.specs.Prelude.{ℕ, ◌≤◌, ◌≡◌, List, None}
use Rattle.refusal.specs.Place.{Place}
use Rattle.sheet.specs.Limits.{limits}
use Rattle.sheet.specs.Layout.{variables}
use Rattle.sheet.specs.Causes.{fact_place, conflict_place}

pub record Finds (w : List ℕ) (p : Place) : Type 0 where
  pub told : fact_place w ≡ None → variables w ≤ limits.variables → p ≡ conflict_place w
