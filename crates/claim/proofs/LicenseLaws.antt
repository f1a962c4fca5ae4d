-- What `license` answers on each of its ways. What the code calls is a variable here, with what is known of it as a premise. Assumes nothing.
use Rattle.std.specs.Prelude.{Err, Ok}
use Prim.Native.Nat.{ℕ, ◌≤◌, ◌<◌}
use mathlib.Core.Path.{◌≡◌, refl, sym, ◌∙◌, ap, subst}
use mathlib.Core.Option.{none, some, some-injective}
use mathlib.Core.List.{List}
use lib.ListN.{length}
use borrow.Author.Tests.{le-leb}
use Rattle.refusal.specs.declared.Refusal.{Refusal}
use Rattle.refusal.specs.Refusal.{Verdict}
use Rattle.refusal.specs.Refusal.{told_refusal, told}
use Rattle.refusal.specs.Check.{answer}
use Rattle.refusal.proofs.CheckLaws.{first_none}
use Rattle.sas.specs.Plan.{Plan}
use Rattle.tally.specs.declared.Tally.{Tally}
use Rattle.sheet.specs.Decode.{task}
use Rattle.plan.specs.Limits.{most_steps}
use Rattle.plan.specs.Valid.{steps}
use Rattle.plan.specs.Readable.{Readable}
use Rattle.plan.specs.Checked.{Answer}
use Rattle.plan.specs.Checked.{told_answer, lodged_tally}
use Rattle.plan.specs.Between.Lodged.{ChecksLodged}
use Rattle.plan.proofs.PlanLaws.{passed_readable}
use Rattle.reduced.specs.Reduced.{room_checks, reduction_checks, Answers}
use Rattle.reduced.proofs.LodgedLaws.{lodged_plan, room_checked, nothing_refused, roomy}
use Rattle.reduced.proofs.AnswerLaws.{answers_refused}
use Rattle.landmark.specs.Marks.{unmarked}
use Rattle.minimal.specs.Minimised.{Shortening}
use Rattle.minimal.specs.Minimised.{most_unmarked, unmarked_checks, minimal_checks, minimal_refusal, Minimises}
use Rattle.minimal.specs.Between.Computed.{MinimisesOf}
use Rattle.minimal.proofs.ComputedTheorem.{minimises_of}
use Rattle.minimal.proofs.DemandThree.{checks_pass, many_refused, refused_many, passed_few}
use Rattle.claim.specs.declared.answer.Claim.TheVariants.{Least}
use Rattle.claim.specs.Licensing.{Licensing, licensing}
use Rattle.claim.specs.Licensed.{licence_refusal}
use Rattle.claim.specs.Between.Computed.{LicensesOf, claim_of, licensed_of}
use Rattle.claim.specs.Statement.{MayBeLodged}
use Rattle.claim.specs.Between.Further.{GoesFurther}
use Rattle.claim.proofs.LicenceTheorem.{licence_of, claims_least}

-- one of the checks 1 to 11 refuses
pub refuses_all : (w l before : List ℕ) (refusal : Refusal) → licence_refusal w l before ≡ some (told_refusal refusal)
    → LicensesOf w l before (licensing (Err refusal)) before
refuses_all w l before refusal fires =
    record {
      answers = answers_refused _ w l (licensed_of w l) before (Err refusal) (sym fires) refusal refl;
      claims = rw fires refl;
      lodged = rw fires refl;
      marks = rw fires refl;
    }

-- none does
module _ (w l before : List ℕ) (passed : licence_refusal w l before ≡ none) where
  readable : Readable w l
  readable = passed_readable _ _ w l passed

  plan : Plan (task w) (steps w l)
  plan = lodged_plan _ w l passed

  room : length l ≤ length before
  room = roomy w l (length before) passed

  -- the minimal reduction answers
  pub licenses_least : (r : Shortening) (tally : Tally) (after : List ℕ) → MinimisesOf most_unmarked w l before r after → r.answer ≡ Ok tally
      → LicensesOf w l before (record { claim = Least; told = r }) after
  licenses_least r tally after minimises valid =
      let passes : answer (minimal_checks most_unmarked w l (length before)) ≡ none = sym minimises.answers.refusal ∙ ap told_answer valid in
      let few : unmarked w l ≤ most_unmarked = passed_few w l readable plan most_unmarked (length before) room passes in
      let claims : claim_of w l ≡ Least = claims_least w l readable plan (le-leb (unmarked w l) most_unmarked few) in
      record {
        answers =
            record {
              refusal = minimises.answers.refusal ∙ passes ∙ sym passed;
              tally = rw (passed, claims) (rw passes at minimises.answers.tally);
              told_by = rw (passed, claims) (rw passes at minimises.answers.told_by);
              output = rw (passed, claims) (rw passes at minimises.answers.output);
            };
        claims = rw (passed, claims);
        lodged = rw passed (rw passes at minimises.lodged);
        marks = rw passed (rw passes at minimises.marks);
      }

  -- or it refuses, for the unmarked steps alone
  pub goes_further : (refusal : Refusal) (lodged : Tally) (others : ℕ) → minimal_refusal most_unmarked w l before ≡ some (told_refusal refusal) → lodged ≡ lodged_tally w l
      → others ≡ (told_refusal refusal).place → GoesFurther w l before lodged others
  goes_further refusal lodged others refuses is counted =
      let many : most_unmarked < unmarked w l = refused_many w l readable plan most_unmarked (length before) room _ refuses in
      let told : told_refusal refusal ≡ record { number = 12; place = unmarked w l } =
      some-injective _ _ (sym refuses ∙ many_refused w l readable plan most_unmarked (length before) room many) in
      record { passes = passed; tally = is; counted = counted ∙ ap (λ t. t.place) told; many = many }

-- what is answered meets the one statement
pub may_be_lodged : (w l before : List ℕ) (r : Licensing) (after : List ℕ) → LicensesOf w l before r after → MayBeLodged w l before r after
may_be_lodged w l before r after licenses readable plan roomy =
    let passed : licence_refusal w l before ≡ none = checks_pass w l readable plan (length before) roomy in
    record {
      claim = claim_of w l;
      left = licensed_of w l;
      licence = licence_of w l readable plan;
      told = (rw passed at licenses.claims, subst (λ t. Answers t w l (licensed_of w l) before r.told.answer r.told.mask.words after) passed licenses.answers);
    }

-- what the check of a list answers where its room is asked besides
module _ (w l before : List ℕ) (v : Verdict) (given : Answer) (state : List ℕ) (asked : told v ≡ answer (room_checks (length l) (length before)))
    (checks : ChecksLodged most_steps w l v given state) where
  pub lodged_refuses : (refusal : Refusal) → given ≡ Err refusal → LicensesOf w l before (licensing (Err refusal)) before
  lodged_refuses refusal is = refuses_all w l before refusal (sym (room_checked w l (length before) v given state asked checks) ∙ ap told_answer is)

  pub lodged_further : (lodged : Tally) (refusal : Refusal) (others : ℕ) → given ≡ Ok lodged → minimal_refusal most_unmarked w l before ≡ some (told_refusal refusal)
      → others ≡ (told_refusal refusal).place → GoesFurther w l before lodged others
  lodged_further lodged refusal others is refuses counted =
      let passed : licence_refusal w l before ≡ none = nothing_refused w l (length before) v given state asked checks lodged is in
      goes_further w l before passed refusal lodged others refuses (rw (passed, is) at (checks.checked (room_checks (length l) (length before)) asked).tally) counted

-- what the service answers, by what the minimal reduction does
module _ (w l before : List ℕ) (r : Shortening) (after : List ℕ) (answered : Minimises most_unmarked w l before r after) where
  minimises : MinimisesOf most_unmarked w l before r after
  minimises = minimises_of most_unmarked w l before r after answered

  pub answers_least : (tally : Tally) → r.answer ≡ Ok tally → LicensesOf w l before (record { claim = Least; told = r }) after
  unfolding minimal_checks
  answers_least tally valid =
      let passes : answer (minimal_checks most_unmarked w l (length before)) ≡ none = sym minimises.answers.refusal ∙ ap told_answer valid in
      let passed : licence_refusal w l before ≡ none = first_none (reduction_checks w l (length before)) (unmarked_checks most_unmarked w l) _ passes refl in
      licenses_least w l before passed r tally after minimises valid

  module _ (refusal : Refusal) (is : r.answer ≡ Err refusal) where
    refuses : minimal_refusal most_unmarked w l before ≡ some (told_refusal refusal)
    refuses = sym minimises.answers.refusal ∙ ap told_answer is

    -- which leaves the output
    stays : after ≡ before
    stays = rw refuses at minimises.answers.output

    pub refuses_there : minimal_refusal most_unmarked w l after ≡ some (told_refusal refusal)
    refuses_there = rw stays refuses

    pub answers_there : (given : Licensing) (last : List ℕ) → LicensesOf w l after given last → LicensesOf w l before given last
    answers_there given last licenses = subst (λ b. LicensesOf w l b given last) stays licenses
