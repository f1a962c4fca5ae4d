-- What `license` answers of a list: the strongest claim that is proved of a list left, and the reduction that leaves
-- it. Assumes nothing.
use Rattle.std.specs.Prelude.{ℕ, ◌≡◌, List, length}
use Rattle.std.proofs.Math.Option.{Option, some}
use Rattle.refusal.specs.Refusal.{Told}
use Rattle.refusal.specs.Check.{answer, unless_refused}
use Rattle.tally.specs.Tally.{nothing}
use Rattle.plan.specs.Checked.{lodged_tally}
use Rattle.landmark.specs.Marks.{marked}
use Rattle.reduced.specs.Reduced.{reduction_checks, TellsLeft, Reduces}
use Rattle.claim.specs.declared.answer.Claim.TheVariants.{Open}
use Rattle.claim.specs.Licensing.{Licensing}
use Rattle.claim.specs.Statement.{Licence}

module _ (w l before : List ℕ) where
  -- the refusal of the first of the checks 1 to 11 that fires, with room for the list in a lent output
  abbrev pub licence_refusal : Option Told
  licence_refusal = answer (reduction_checks w l (length before))

  -- the service: it answers with a licence over a lent output, of which there is just one (`licence_once`), and tells
  -- the tally of the lodged list and the number of its marked steps besides; a refusal has zeros, and claims nothing
  pub record Licenses (r : Licensing) (after : List ℕ) : Type 0 where
    pub answers : TellsLeft (Licence w l r.claim)
        (λ m. Reduces w l m before r.told.answer r.told.mask.words after) licence_refusal
    pub no_claim : (t : Told) → licence_refusal ≡ some t → r.claim ≡ Open 0
    pub lodged : r.told.lodged ≡ unless_refused licence_refusal (lodged_tally w l) nothing
    pub marks : r.told.marked ≡ unless_refused licence_refusal (marked w l) 0
