-- The minimal reduction of a list as it is computed, and what the service answers with it. `minimal_left` says that it
-- is one, and `minimises_of` that the service can answer nothing else. Assumes nothing.
use Rattle.std.specs.Prelude.{ℕ, ◌≡◌, List}
use Rattle.refusal.specs.Check.{unless_refused}
use Rattle.reduction.specs.Reduction.{Reduction, meets}
use Rattle.reduction.specs.Between.Found.{minimal}
use Rattle.tally.specs.Tally.{nothing}
use Rattle.sheet.specs.Decode.{goal, initial}
use Rattle.plan.specs.Valid.{steps}
use Rattle.plan.specs.Checked.{lodged_tally}
use Rattle.reduced.specs.Reduced.{Answers}
use Rattle.landmark.specs.Marks.{marked}
use Rattle.minimal.specs.Minimised.{Shortening}
use Rattle.minimal.specs.Minimised.{minimal_refusal}

-- of the list l of the sheet w
abbrev pub minimal_of : List ℕ → List ℕ → Reduction
minimal_of w l = minimal (meets (goal w)) (initial w) (steps w l)

-- what is answered with it
pub record MinimisesOf (limit : ℕ) (w l before : List ℕ) (r : Shortening) (after : List ℕ) : Type 0 where
  pub answers : Answers (minimal_refusal limit w l before) w l (minimal_of w l) before
      r.answer r.mask.words after
  pub lodged : r.lodged ≡ unless_refused (minimal_refusal limit w l before) (lodged_tally w l) nothing
  pub marks : r.marked ≡ unless_refused (minimal_refusal limit w l before) (marked w l) 0
