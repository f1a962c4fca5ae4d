-- What the service answers is what is computed: the claim and its reduction that are computed are a licence, and there is just one. Assumes nothing.
use Prim.Native.Nat.{ℕ}
use mathlib.Core.Path.{◌≡◌, refl, sym, subst}
use mathlib.Core.Option.{Option, none, some}
use mathlib.Core.List.{List}
use Rattle.refusal.specs.Refusal.{Told}
use Rattle.refusal.specs.Check.{unless_refused}
use Rattle.plan.proofs.PlanLaws.{passed_readable}
use Rattle.reduced.proofs.AnswerLaws.{answers_same}
use Rattle.reduced.proofs.LodgedLaws.{lodged_plan}
use Rattle.claim.specs.declared.answer.Claim.TheVariants.{Open}
use Rattle.claim.specs.Licensing.{Licensing}
use Rattle.claim.specs.Statement.{Licence}
use Rattle.claim.specs.Licensed.{licence_refusal, Licenses}
use Rattle.claim.specs.Between.Computed.{claim_of, licensed_of, LicensesOf}
use Rattle.claim.proofs.LicenceTheorem.{licence_of, licence_once}

module _ (w l before : List ℕ) (r : Licensing) (after : List ℕ) where
  pub licenses_so : LicensesOf w l before r after → Licenses w l before r after
  licenses_so computed =
      record {
        answers =
            record {
              left = licensed_of w l;
              is_left = λ passed. subst (λ c. Licence w l c (licensed_of w l)) (sym (rw passed at computed.claims))
                  (licence_of w l (passed_readable _ _ w l passed) (lodged_plan _ w l passed));
              told = computed.answers;
            };
        no_claim = λ t refused. rw refused at computed.claims;
        lodged = computed.lodged;
        marks = computed.marks;
      }

  pub licenses_of : Licenses w l before r after → LicensesOf w l before r after
  licenses_of licenses =
      record {
        answers =
            answers_same _ w l licenses.answers.left (licensed_of w l) before r.told.answer r.told.mask.words after
            (λ passed. (once passed).1) licenses.answers.told;
        claims = by_case (licence_refusal w l before) refl;
        lodged = licenses.lodged;
        marks = licenses.marks;
      }
    where
      once : licence_refusal w l before ≡ none → (r.claim ≡ claim_of w l) × (licenses.answers.left ≡ licensed_of w l)
      once passed = licence_once w l (passed_readable _ _ w l passed) (lodged_plan _ w l passed) r.claim licenses.answers.left (licenses.answers.is_left passed)

      by_case : (t : Option Told) → licence_refusal w l before ≡ t → r.claim ≡ unless_refused (licence_refusal w l before) (claim_of w l) (Open 0)
      by_case none e = rw e (once e).0
      by_case (some t) e = rw e (licenses.no_claim t e)
