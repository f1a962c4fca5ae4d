-- What the service answers is what is computed: the minimal reduction that is computed is one, and there is just one. Assumes nothing.
use Prim.Native.Nat.{ℕ}
use mathlib.Core.Path.{◌≡◌, refl}
use mathlib.Core.Option.{none}
use mathlib.Core.List.{List}
use Rattle.refusal.specs.Check.{answer}
use Rattle.refusal.proofs.CheckLaws.{first_none}
use Rattle.reduction.specs.Reduction.{meets}
use Rattle.reduction.specs.Minimal.{MinimalReduction}
use Rattle.reduction.proofs.minimal.MinimalTheorem.{minimal_found, minimal_once}
use Rattle.sheet.specs.Decode.{goal, initial}
use Rattle.plan.specs.Valid.{steps}
use Rattle.reduced.specs.Reduced.{reduction_checks}
use Rattle.reduced.proofs.AnswerLaws.{answers_same}
use Rattle.reduced.proofs.LodgedLaws.{lodged_valid}
use Rattle.minimal.specs.Minimised.{Shortening}
use Rattle.minimal.specs.Minimised.{unmarked_checks, minimal_checks, Minimises}
use Rattle.minimal.specs.Between.Computed.{minimal_of, MinimisesOf}

module _ (limit : ℕ) (w l : List ℕ) (room : ℕ) (passes : answer (minimal_checks limit w l room) ≡ none) where
  -- what passes all the checks of the minimal reduction passes those of every reduction
  pub first_pass : answer (reduction_checks w l room) ≡ none
  unfolding minimal_checks
  first_pass = first_none _ (unmarked_checks limit w l) _ passes refl

  pub minimal_left : MinimalReduction (initial w) (goal w) (steps w l) (minimal_of w l)
  minimal_left = minimal_found (meets (goal w)) (initial w) (steps w l) (lodged_valid _ w l first_pass)

module _ (limit : ℕ) (w l before : List ℕ) (r : Shortening) (after : List ℕ) where
  pub minimises_so : MinimisesOf limit w l before r after → Minimises limit w l before r after
  minimises_so computed =
      record {
        answers = record { left = minimal_of w l; is_left = minimal_left limit w l _; told = computed.answers };
        lodged = computed.lodged;
        marks = computed.marks;
      }

  pub minimises_of : Minimises limit w l before r after → MinimisesOf limit w l before r after
  minimises_of minimises =
      record {
        answers =
            answers_same _ w l minimises.answers.left (minimal_of w l) before r.answer r.mask.words after
            (λ passes. minimal_once (λ m v. v.fits) (minimises.answers.is_left passes) (minimal_left limit w l _ passes)) minimises.answers.told;
        lodged = minimises.lodged;
        marks = minimises.marks;
      }
