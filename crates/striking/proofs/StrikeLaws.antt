-- What a service that strikes has stored into lent words. Assumes nothing.
use Prim.Native.Nat.{ℕ}
use mathlib.Core.Path.{◌≡◌, refl, ◌∙◌, ap}
use mathlib.Core.Option.{Option, none, some}
use mathlib.Core.List.{List, ◌++◌}
use lib.Seq.{sets}
use Rattle.refusal.specs.Refusal.{Verdict}
use Rattle.refusal.specs.Refusal.{Told, told}
use Rattle.refusal.specs.Check.{Check, answer, unless_refused}
use Rattle.reduction.specs.Reduction.{Reduction}
use Rattle.tally.specs.declared.Tally.{Tally}
use Rattle.plan.specs.Checked.{Answer}
use Rattle.plan.specs.Checked.{told_answer, told_tally}
use Rattle.reduced.specs.Reduced.{Answers, TellsLeft}
use Rattle.cheaper.specs.Cheaper.{ReducesBoth}
use Rattle.minimal.specs.Minimised.{most_unmarked}
use Rattle.minimal.specs.Statement.{DemandThreeOf, DemandThree}
use Rattle.claim.specs.declared.answer.Claim.{Claim}
use Rattle.claim.specs.declared.answer.Claim.TheVariants.{Least, Irreducible, Open}
use Rattle.claim.specs.Licensing.{Licensing}
use Rattle.claim.specs.Licensed.{licence_refusal, Licenses}
use Rattle.claim.specs.Statement.{MayBeLodged}
use Rattle.lent.specs.Words.{answer_words, tally_words, WritesReduced}
use Rattle.striking.specs.Strikes.{AnswersLent, LeftLent, ReducesBothLent, claim_words, LicensesLent}
use Rattle.striking.specs.Statement.{DemandThreeLent, MayBeLodgedLent}

-- both eliminations, written to lent words
pub lent_both : (w l first first' second second' out out' : List ℕ) (verdict : Verdict) (a b : Tally) → ReducesBoth w l first second verdict a b first' second'
    → out' ≡ sets out 0 (answer_words (told verdict) ++ (tally_words a ++ tally_words b)) → ReducesBothLent w l first first' second second' out out'
lent_both w l first first' second second' out out' verdict a b both answered =
    let same = both.refusal in
    record {
      left = both.elimination.left;
      is_left = λ passed. both.elimination.is_left (same ∙ passed);
      told =
          record {
            left = both.greedy.left;
            is_left = λ passed. both.greedy.is_left (same ∙ passed);
            told =
                record {
                  first_left = both.elimination.told.1 ∙ rw same;
                  second_left = both.greedy.told.1 ∙ rw same;
                  answered = answered ∙ rw (both.elimination.told.0, both.greedy.told.0, same);
                };
          };
    }

-- an answer with its tally, and a claim behind it
claim_written : (l : List ℕ) (t : Option Told) (a : Tally) (c : Claim) → sets (sets l 0 (answer_words t ++ tally_words a)) 4 (claim_words c) ≡ sets l 0 (answer_words t ++ (tally_words a ++ claim_words c))
claim_written l none a (Open n) = refl
claim_written l none a Irreducible = refl
claim_written l none a Least = refl
claim_written l (some t) a (Open n) = refl
claim_written l (some t) a Irreducible = refl
claim_written l (some t) a Least = refl

-- what a service that strikes answers, written to lent words
pub lent_answers : (t : Option Told) (w l : List ℕ) (m : Reduction) (output output' mask mask' out out' words : List ℕ) (given : Answer)
    → Answers t w l m output given words output' → WritesReduced words given mask mask' out out' → AnswersLent t w l m output output' mask mask' out out'
lent_answers t w l m output output' mask mask' out out' words given answers writes =
    record {
      list_left = answers.output;
      told_by = writes.told_by ∙ rw answers.told_by;
      answered = writes.answered ∙ rw (answers.refusal, answers.tally);
    }

-- and of some reduction
pub lent_left : (Left : Reduction → Type 0) (checks : List Check) (w l output output' mask mask' out out' words : List ℕ) (given : Answer)
    → TellsLeft Left (λ m. Answers (answer checks) w l m output given words output') (answer checks) → WritesReduced words given mask mask' out out'
    → LeftLent Left checks w l output output' mask mask' out out'
lent_left Left checks w l output output' mask mask' out out' words given tells writes =
    record { left = tells.left; is_left = tells.is_left; told = lent_answers _ w l tells.left output output' mask mask' out out' words given tells.told writes }

-- and demand 3 of it
pub lent_demand : (w l output output' mask mask' out out' words : List ℕ) (given : Answer) → DemandThree most_unmarked w l output given words output'
    → WritesReduced words given mask mask' out out' → DemandThreeLent w l output output' mask mask' out out'
lent_demand w l output output' mask mask' out out' words given demand writes readable plan roomy =
    let of_list : DemandThreeOf w l most_unmarked (λ t m. Answers t w l m output given words output') = demand readable plan roomy in
    record {
      marked_kept = of_list.marked_kept;
      flagged = of_list.flagged;
      left = of_list.left;
      minimal = of_list.minimal;
      plan_left = of_list.plan_left;
      answered = λ few. lent_answers _ w l _ output output' mask mask' out out' words given (of_list.answered few) writes;
      refused = λ many. lent_answers _ w l _ output output' mask mask' out out' words given (of_list.refused many) writes;
    }

-- the licence of a list, written to lent words
module _ (w l output output' mask mask' out between out' : List ℕ) (r : Licensing) (writes : WritesReduced r.told.mask.words r.told.answer mask mask' out between)
    (claimed : out' ≡ sets between 4 (claim_words r.claim)) where
  all_written : out' ≡ sets out 0 (answer_words (told_answer r.told.answer) ++ (tally_words (told_tally r.told.answer) ++ claim_words r.claim))
  all_written = claimed ∙ rw writes.answered (claim_written out (told_answer r.told.answer) (told_tally r.told.answer) r.claim)

  pub lent_licenses : Licenses w l output r output' → LicensesLent w l output output' mask mask' out out'
  lent_licenses licenses =
      let answers = licenses.answers.told in (
        r.claim,
        record {
          left = licenses.answers.left;
          is_left = licenses.answers.is_left;
          told =
              record {
                list_left = answers.output;
                told_by = writes.told_by ∙ rw answers.told_by;
                answered = all_written
                    ∙ ap (λ c. sets out 0 (answer_words (told_answer r.told.answer) ++ (tally_words (told_tally r.told.answer) ++ claim_words c))) (claimed_so (licence_refusal w l output) refl)
                    ∙ rw (answers.refusal, answers.tally);
              };
        },
      )
    where
      -- a refusal claims nothing
      claimed_so : (t : Option Told) → licence_refusal w l output ≡ t → r.claim ≡ unless_refused t r.claim (Open 0)
      claimed_so none e = refl
      claimed_so (some t) e = licenses.no_claim t e

  pub lent_licence : MayBeLodged w l output r output' → MayBeLodgedLent w l output output' mask mask' out out'
  lent_licence may readable plan roomy =
      let licensed = may readable plan roomy in
      let (claims, answers) = licensed.told in
      record {
        claim = licensed.claim;
        left = licensed.left;
        licence = licensed.licence;
        told =
            record {
              list_left = answers.output;
              told_by = writes.told_by ∙ rw answers.told_by;
              answered = all_written ∙ rw (answers.refusal, answers.tally, claims);
            };
      }
