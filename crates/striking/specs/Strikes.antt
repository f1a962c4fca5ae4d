-- What each service that strikes writes over lent words. Assumes nothing.
use Rattle.std.specs.Prelude.{ℕ, min, ◌≡◌, List, [], ◌∷◌, ◌++◌, length, replicate}
use Rattle.std.proofs.Math.Option.{Option}
use Rattle.std.proofs.lemmas.List.Edits.{sets}
use Rattle.refusal.specs.Refusal.{Told}
use Rattle.refusal.specs.Check.{Check, answer, unless_refused}
use Rattle.tally.specs.Tally.{nothing}
use Rattle.reduction.specs.Reduction.{Reduction}
use Rattle.reduction.specs.Minimal.{MinimalReduction}
use Rattle.sheet.specs.Decode.{goal, initial}
use Rattle.plan.specs.Valid.{steps}
use Rattle.mask.specs.Mask.{mask_length, mask_words}
use Rattle.reduced.specs.Reduced.{reduction_checks, tally_left, output_left, TellsLeft}
use Rattle.elimination.specs.declared.single.Elimination.{Elimination}
use Rattle.elimination.specs.declared.single.Elimination.TheVariants.{Plain, Greedy}
use Rattle.elimination.specs.Eliminations.{LeftByRule}
use Rattle.cheaper.specs.Cheaper.{LeftByCheaper}
use Rattle.minimal.specs.Minimised.{most_unmarked, minimal_checks}
use Rattle.claim.specs.declared.answer.Claim.{Claim}
use Rattle.claim.specs.declared.answer.Claim.TheVariants.{Least, Irreducible, Open}
use Rattle.claim.specs.Statement.{Licence}
use Rattle.lent.specs.Words.{answer_words, tally_words}

-- the reduction m of the list l over lent words, from a service whose checks answer t: the list left over `output`, the
-- mask over `mask`, the answer and the tally over `out`
pub record AnswersLent (t : Option Told) (w l : List ℕ) (m : Reduction)
    (output output' mask mask' out out' : List ℕ) : Type 0 where
  pub list_left : output' ≡ unless_refused t (output_left l m output) output
  pub told_by : mask' ≡ sets mask 0 (unless_refused t (mask_words m) (replicate mask_length 0))
  pub answered : out' ≡ sets out 0 (answer_words t ++ tally_words (unless_refused t (tally_left w l m) nothing))

-- some reduction over lent words, which is as `Left` says where none of these checks fires
abbrev pub LeftLent : (Reduction → Type 0) → List Check → List ℕ → List ℕ
    → List ℕ → List ℕ → List ℕ → List ℕ → List ℕ → List ℕ → Type 0
LeftLent Left checks w l output output' mask mask' out out' =
    TellsLeft Left (λ m. AnswersLent (answer checks) w l m output output' mask mask' out out') (answer checks)

-- what an elimination leaves by its rule over lent words
abbrev pub EliminatesLent : Elimination → List ℕ → List ℕ
    → List ℕ → List ℕ → List ℕ → List ℕ → List ℕ → List ℕ → Type 0
EliminatesLent by w l output = LeftLent (LeftByRule by w l) (reduction_checks w l (length output)) w l output

-- what the cheaper elimination leaves over lent words
abbrev pub CheaperLent : List ℕ → List ℕ → List ℕ → List ℕ → List ℕ → List ℕ → List ℕ → List ℕ → Type 0
CheaperLent w l output = LeftLent (LeftByCheaper w l) (reduction_checks w l (length output)) w l output

-- the minimal reduction over lent words
abbrev pub MinimisesLent : List ℕ → List ℕ → List ℕ → List ℕ → List ℕ → List ℕ → List ℕ → List ℕ → Type 0
MinimisesLent w l output =
    LeftLent (MinimalReduction (initial w) (goal w) (steps w l))
    (minimal_checks most_unmarked w l (length output)) w l output

-- a claim: its strength, 0 where it is open, 1 where it is irreducible, 2 where it is least, and then how many steps
-- are unmarked where it is open
abbrev pub claim_words : Claim → List ℕ
claim_words (Open n) = 0 ∷ n ∷ []
claim_words Irreducible = 1 ∷ 0 ∷ []
claim_words Least = 2 ∷ 0 ∷ []

-- the claim c and the reduction m over lent words, of checks that answer t: as a reduction is answered, and the claim
-- behind it
pub record LicenceLent (t : Option Told) (w l : List ℕ) (c : Claim) (m : Reduction)
    (output output' mask mask' out out' : List ℕ) : Type 0 where
  pub list_left : output' ≡ unless_refused t (output_left l m output) output
  pub told_by : mask' ≡ sets mask 0 (unless_refused t (mask_words m) (replicate mask_length 0))
  pub answered : out' ≡ sets out 0 (answer_words t
      ++ (tally_words (unless_refused t (tally_left w l m) nothing) ++ claim_words (unless_refused t c (Open 0))))

-- a licence of a list over lent words
abbrev pub LicensesLent : List ℕ → List ℕ → List ℕ → List ℕ → List ℕ → List ℕ → List ℕ → List ℕ → Type 0
LicensesLent w l output output' mask mask' out out' =
    let t : Option Told = answer (reduction_checks w l (length output)) in
    (c : Claim) × TellsLeft (Licence w l c) (λ m. LicenceLent t w l c m output output' mask mask' out out') t

-- the reductions m and n over lent words, of checks that answer t
pub record BothLent (t : Option Told) (w l : List ℕ) (m n : Reduction)
    (first first' second second' out out' : List ℕ) : Type 0 where
  pub first_left : first' ≡ unless_refused t (output_left l m first) first
  pub second_left : second' ≡ unless_refused t (output_left l n second) second
  pub answered : out' ≡ sets out 0 (answer_words t ++ (tally_words (unless_refused t (tally_left w l m) nothing)
      ++ tally_words (unless_refused t (tally_left w l n) nothing)))

-- what both eliminations leave by their rules over lent words
abbrev pub ReducesBothLent : List ℕ → List ℕ → List ℕ → List ℕ → List ℕ → List ℕ → List ℕ → List ℕ → Type 0
ReducesBothLent w l first first' second second' out out' =
    let t : Option Told = answer (reduction_checks w l (min (length first) (length second))) in
    TellsLeft (LeftByRule Plain w l) (λ m. TellsLeft (LeftByRule Greedy w l)
    (λ n. BothLent t w l m n first first' second second' out out') t) t
