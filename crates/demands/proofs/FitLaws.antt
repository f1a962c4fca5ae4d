-- What is left of a list that passes the checks of its service has a flag for each of its steps, and its output has room: by the laws of the checks, and since
-- each service strikes from a valid list. Assumes nothing.
use Prim.Native.Nat.{ℕ, ◌≤◌}
use mathlib.Core.Path.{◌≡◌, sym, ◌∙◌, subst}
use mathlib.Core.Option.{none}
use mathlib.Core.List.{List}
use lib.ListN.{length, length-map}
use Rattle.refusal.specs.Check.{answer}
use Rattle.sheet.specs.Decode.{initial, goal, action}
use Rattle.plan.specs.Limits.{most_steps}
use Rattle.plan.specs.Valid.{steps}
use Rattle.plan.proofs.PlanLaws.{passed_readable}
use Rattle.reduction.specs.Reduction.{Reduction}
use Rattle.reduction.specs.Minimal.{MinimalReduction}
use Rattle.reduced.specs.Reduced.{reduction_checks}
use Rattle.reduced.proofs.LodgedLaws.{lodged_valid, roomy}
use Rattle.elimination.specs.declared.single.Elimination.{Elimination}
use Rattle.elimination.specs.Eliminations.{LeftByRule}
use Rattle.elimination.specs.Between.Left.{left_by}
use Rattle.elimination.proofs.LeavesLaws.{rule_leaves, left_fits}
use Rattle.claim.specs.declared.answer.Claim.{Claim}
use Rattle.claim.specs.Statement.{Licence}
use Rattle.cheaper.specs.Between.Computed.{cheaper_of}
use Rattle.cheaper.specs.Cheaper.{LeftByCheaper}
use Rattle.cheaper.proofs.CheaperLaws.{cheaper_once, cheaper_valid}
use Rattle.minimal.specs.Minimised.{most_unmarked, minimal_checks}
use Rattle.minimal.proofs.ComputedTheorem.{first_pass}

-- a reduction with a flag for each step of a list, for which there is room
pub record FlagsEach (l : List ℕ) (m : Reduction) (room : ℕ) : Type 0 where
  pub fits : length m ≡ length l
  pub few : length l ≤ most_steps
  pub roomy : length l ≤ room

module _ (w l : List ℕ) (room : ℕ) where
  passed_flags : (m : Reduction) → answer (reduction_checks w l room) ≡ none → length m ≡ length (steps w l) → FlagsEach l m room
  passed_flags m passed fits =
      record { fits = fits ∙ length-map l (action w); few = (passed_readable _ _ w l passed).few; roomy = roomy w l room passed }

  -- what the rule of an elimination leaves is what is computed
  pub left_computed : (by : Elimination) (m : Reduction) → answer (reduction_checks w l room) ≡ none → LeftByRule by w l m → m ≡ left_by by w l
  left_computed by m passed leaves = (rule_leaves w l (lodged_valid _ w l passed) by m).1 leaves

  pub computed_flags : (by : Elimination) → answer (reduction_checks w l room) ≡ none → FlagsEach l (left_by by w l) room
  computed_flags by passed = passed_flags (left_by by w l) passed (left_fits w l (passed_readable _ _ w l passed) (lodged_valid _ w l passed) by)

  pub cheaper_flags_each : (m : Reduction) → answer (reduction_checks w l room) ≡ none → LeftByCheaper w l m → FlagsEach l m room
  cheaper_flags_each m passed leaves =
      subst (λ n. FlagsEach l n room) (sym (cheaper_once w l (lodged_valid _ w l passed) m leaves))
      (passed_flags (cheaper_of w l) passed (cheaper_valid w l (passed_readable _ _ w l passed) (lodged_valid _ w l passed)).fits)

  pub elimination_flags : (by : Elimination) (m : Reduction) → answer (reduction_checks w l room) ≡ none → LeftByRule by w l m → FlagsEach l m room
  elimination_flags by m passed leaves =
      subst (λ n. FlagsEach l n room) (sym (left_computed by m passed leaves)) (computed_flags by passed)

  pub minimal_flags : (m : Reduction) → answer (minimal_checks most_unmarked w l room) ≡ none → MinimalReduction (initial w) (goal w) (steps w l) m → FlagsEach l m room
  minimal_flags m passes minimal = passed_flags m (first_pass most_unmarked w l room passes) minimal.valid.fits

  pub licensed_flags : (c : Claim) (m : Reduction) → answer (reduction_checks w l room) ≡ none → Licence w l c m → FlagsEach l m room
  licensed_flags c m passed licence = passed_flags m passed licence.valid_left.fits
