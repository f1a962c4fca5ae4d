-- The claim of a list and its reduction as they are computed, and what the service answers with them. `licence_of` says
-- that they are a licence, and `licence_once` that there is no other. Assumes nothing.
use Rattle.std.specs.Prelude.{ℕ, ◌≡◌, cond, List, leb}
use Rattle.refusal.specs.Check.{unless_refused}
use Rattle.reduction.specs.Reduction.{Reduction, kept, compose}
use Rattle.tally.specs.Tally.{nothing}
use Rattle.plan.specs.Checked.{lodged_tally}
use Rattle.landmark.specs.Marks.{marked, unmarked}
use Rattle.reduced.specs.Reduced.{Reduces}
use Rattle.cheaper.specs.Between.Computed.{cheaper_of}
use Rattle.minimal.specs.Minimised.{most_unmarked}
use Rattle.minimal.specs.Between.Computed.{minimal_of}
use Rattle.claim.specs.declared.answer.Claim.{Claim}
use Rattle.claim.specs.declared.answer.Claim.TheVariants.{Least, Irreducible, Open}
use Rattle.claim.specs.Licensing.{Licensing}
use Rattle.claim.specs.Licensed.{licence_refusal}

-- the list that the cheaper elimination leaves of the list l of the sheet w
abbrev pub cheaper_list : List ℕ → List ℕ → List ℕ
cheaper_list w l = kept (cheaper_of w l) l

-- the strongest claim whose condition is met
unfoldable pub claim_of : List ℕ → List ℕ → Claim
claim_of w l =
    cond (leb (unmarked w l) most_unmarked) Least
    (cond (leb (unmarked w (cheaper_list w l)) most_unmarked) Irreducible
    (Open (unmarked w (cheaper_list w l))))

-- the reduction of the lodged list under each claim
abbrev pub claimed_by : Claim → List ℕ → List ℕ → Reduction
claimed_by Least w l = minimal_of w l
claimed_by Irreducible w l = compose (cheaper_of w l) (minimal_of w (cheaper_list w l))
claimed_by (Open n) w l = cheaper_of w l

abbrev pub licensed_of : List ℕ → List ℕ → Reduction
licensed_of w l = claimed_by (claim_of w l) w l

-- what is answered with them
pub record LicensesOf (w l before : List ℕ) (r : Licensing) (after : List ℕ) : Type 0 where
  pub answers : Reduces w l (licensed_of w l) before r.told.answer r.told.mask.words after
  pub claims : r.claim ≡ unless_refused (licence_refusal w l before) (claim_of w l) (Open 0)
  pub lodged : r.told.lodged ≡ unless_refused (licence_refusal w l before) (lodged_tally w l) nothing
  pub marks : r.told.marked ≡ unless_refused (licence_refusal w l before) (marked w l) 0
