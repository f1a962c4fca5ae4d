-- What `license` answers of a list that goes further than the minimal reduction: what the cheaper elimination leaves can be read and is a plan, so that only the number of
-- its unmarked steps decides which of the two claims is left. What the code calls is a variable here, with what is known of it as a premise. Assumes nothing.
use Rattle.std.specs.Prelude.{Err, Ok}
use Prim.Native.Nat.{ℕ, ◌-◌, ◌≤◌, ◌<◌, ◌^◌}
use native.Mathlib.Omega.{arith}
use mathlib.Core.Path.{◌≡◌, refl, sym, ◌∙◌, ap, subst}
use mathlib.Core.Bool.{true}
use mathlib.Core.Option.{none, some, some-injective}
use mathlib.Core.List.{List}
use lib.ListN.{length, take, replicate, length-map, length-replicate}
use lib.Seq.{sets, take_at, length-sets}
use borrow.Author.Tests.{le-leb, lt-leb}
use Rattle.refusal.specs.declared.Refusal.{Refusal}
use Rattle.refusal.specs.Refusal.{told_refusal}
use Rattle.refusal.specs.Check.{answer}
use Rattle.sas.specs.Plan.{Plan, cost}
use Rattle.tally.specs.declared.Tally.{Tally}
use Rattle.tally.proofs.TallyLaws.{same_tally}
use Rattle.reduction.specs.Reduction.{Reduction, kept, count, compose, valid}
use Rattle.reduction.proofs.ReductionLaws.{kept_length, left_length, kept_compose, compose_length}
use Rattle.reduction.proofs.marks.RoundLaws.{count_few}
use Rattle.mask.specs.declared.Mask.{Mask}
use Rattle.mask.specs.Mask.{mask_bits, mask_words}
use Rattle.mask.proofs.MaskTheorem.{front_and_rest}
use Rattle.sheet.specs.Decode.{goal, initial, action, task}
use Rattle.plan.specs.Limits.{most_steps}
use Rattle.plan.specs.Valid.{steps}
use Rattle.plan.specs.Readable.{Readable}
use Rattle.plan.specs.Checked.{told_answer}
use Rattle.plan.proofs.PlanLaws.{passed_readable}
use Rattle.reduced.specs.Reduced.{tally_left}
use Rattle.reduced.specs.Between.Held.{mask, flags_of, Leaves}
use Rattle.reduced.specs.Between.Kept.{Keeps, Finishes}
use Rattle.reduced.proofs.LodgedLaws.{lodged_plan, lodged_valid, roomy}
use Rattle.reduced.proofs.TalliedLaws.{kept_steps}
use Rattle.reduced.proofs.AnswerLaws.{keeps, answers_kept}
use Rattle.landmark.specs.Marks.{marks, marked, unmarked}
use Rattle.landmark.proofs.MarkTheorem.{marks_length}
use Rattle.cheaper.specs.Between.Computed.{cheaper_of}
use Rattle.cheaper.proofs.CheaperLaws.{cheaper_valid, cheaper_leaves}
use Rattle.minimal.specs.Minimised.{Shortening}
use Rattle.minimal.specs.Minimised.{most_unmarked, minimal_checks, Minimises}
use Rattle.minimal.specs.Between.Computed.{MinimisesOf, minimal_of}
use Rattle.minimal.proofs.ComputedTheorem.{minimises_of}
use Rattle.minimal.proofs.DemandThree.{is_minimal, many_refused, refused_many, passed_few}
use Rattle.claim.specs.declared.answer.Claim.{Claim}
use Rattle.claim.specs.declared.answer.Claim.TheVariants.{Irreducible, Open}
use Rattle.claim.specs.Licensing.{Licensing}
use Rattle.claim.specs.Between.Computed.{LicensesOf, claim_of, claimed_by, cheaper_list}
use Rattle.claim.specs.Between.Further.{GoesFurther}
use Rattle.claim.proofs.LicenceTheorem.{cheaper_readable, cheaper_plan, claims_irreducible, claims_open}

-- the words over which the list left is written
abbrev zeros : List ℕ
zeros = replicate most_steps 0

module _ (w l before : List ℕ) (lodged : Tally) (others : ℕ) (further : GoesFurther w l before lodged others) where
  readable : Readable w l
  readable = passed_readable _ _ w l further.passes

  plan : Plan (task w) (steps w l)
  plan = lodged_plan _ w l further.passes

  valid_list : valid (initial w) (goal w) (steps w l) ≡ true
  valid_list = lodged_valid _ w l further.passes

  pub cheaper_asked : Readable w l × (valid (initial w) (goal w) (steps w l) ≡ true)
  cheaper_asked = (readable, valid_list)

  -- the others are marked, and so few that any word counts them
  others_marked : length l - others ≡ marked w l
  others_marked = omega (arith, further.counted, count_few (marks w l), marks_length w l)

  pub marked_fits : length l - others < 2 ^ 32
  marked_fits = omega (arith, readable.few)

  -- the claim and all that is told of its reduction
  licenses : (claim : Claim) (tally : Tally) (m : Mask) (after : List ℕ) → claim_of w l ≡ claim → Keeps w l (claimed_by claim w l) before tally m.words after
      → LicensesOf w l before (record { claim = claim; told = record { answer = Ok tally; mask = m; lodged = lodged; marked = length l - others } }) after
  licenses claim tally m after is keeps =
      record {
        answers = answers_kept _ w l _ before (Ok lodged) (sym further.passes) lodged (claimed_by claim w l) after m.words tally refl (ap (λ c. claimed_by c w l) (sym is)) keeps;
        claims = rw further.passes (sym is);
        lodged = rw further.passes further.tally;
        marks = rw further.passes others_marked;
      }

  -- what the cheaper elimination leaves
  cheaper_fits : length (cheaper_of w l) ≡ length l
  cheaper_fits = (cheaper_valid w l readable valid_list).fits ∙ length-map l (action w)

  there_readable : Readable w (cheaper_list w l)
  there_readable = cheaper_readable w l readable plan

  there_plan : Plan (task w) (steps w (cheaper_list w l))
  there_plan = cheaper_plan w l readable plan

  there_room : length (cheaper_list w l) ≤ length before
  there_room = omega (arith, left_length (cheaper_of w l) l cheaper_fits, roomy w l (length before) further.passes)

  minimal_fits : length (minimal_of w (cheaper_list w l)) ≡ length (cheaper_list w l)
  minimal_fits = (is_minimal w (cheaper_list w l) there_readable there_plan).valid.fits ∙ length-map (cheaper_list w l) (action w)

  -- of it and then of the minimal reduction, as one
  tally_through : tally_left w (cheaper_list w l) (minimal_of w (cheaper_list w l)) ≡ tally_left w l (claimed_by Irreducible w l)
  tally_through =
      let left : kept (claimed_by Irreducible w l) l ≡ kept (minimal_of w (cheaper_list w l)) (cheaper_list w l) =
      kept_compose (cheaper_of w l) (minimal_of w (cheaper_list w l)) l in
      let done : kept (minimal_of w (cheaper_list w l)) (steps w (cheaper_list w l)) ≡ kept (claimed_by Irreducible w l) (steps w l) =
      kept_steps w (cheaper_list w l) (minimal_of w (cheaper_list w l)) ∙ ap (steps w) (sym left) ∙ sym (kept_steps w l (claimed_by Irreducible w l)) in
      let fits : length (claimed_by Irreducible w l) ≡ length l = compose_length (cheaper_of w l) (minimal_of w (cheaper_list w l)) ∙ cheaper_fits in
      same_tally _ _ (ap cost done)
      (sym (kept_length (minimal_of w (cheaper_list w l)) (cheaper_list w l) minimal_fits) ∙ ap length (sym left) ∙ kept_length (claimed_by Irreducible w l) l fits)

  module _ (flags : Reduction) (flagged : flags ≡ flags_of l (cheaper_of w l)) where
    pub flags_leave : Leaves l (cheaper_of w l) flags
    flags_leave = cheaper_leaves w l readable valid_list flags flagged

    pub flags_few : length (mask l flags) ≤ most_steps
    flags_few = omega (arith, flags_leave.fits, readable.few)

    module _ (tally : Tally) (words list : List ℕ) (finishes : Finishes w l (mask l flags) zeros tally words list) where
      keeps_cheaper : Keeps w l (cheaper_of w l) zeros tally words list
      keeps_cheaper = subst (λ m. Keeps w l m zeros tally words list) flags_leave.same (keeps w l (mask l flags) _ list words tally readable flags_leave.fits finishes)

      steps_left : tally.steps ≡ length (cheaper_list w l)
      steps_left = ap (λ t. t.steps) keeps_cheaper.counted ∙ sym (kept_length (cheaper_of w l) l cheaper_fits)

      sized : length list ≡ most_steps
      sized = ap length keeps_cheaper.written ∙ length-sets zeros 0 (kept (cheaper_of w l) l) ∙ length-replicate {A = ℕ} most_steps 0

      -- the list left stands at the front
      pub inside : tally.steps ≤ length list
      inside = omega (arith, steps_left, sized, there_readable.few)

      pub front_is : take tally.steps list ≡ cheaper_list w l
      front_is =
          let long : length (cheaper_of w l) ≤ mask_bits = omega (arith, cheaper_fits, readable.few) in
          let room : count (cheaper_of w l) ≤ length zeros =
          omega (arith, kept_length (cheaper_of w l) l cheaper_fits, there_readable.few, length-replicate {A = ℕ} most_steps 0) in
          rw (keeps_cheaper.written, front_and_rest (cheaper_of w l) l long cheaper_fits zeros room)
          (take_at (cheaper_list w l) _ tally.steps (sym steps_left))

      pub front_long : length (take tally.steps list) ≡ tally.steps
      front_long = rw front_is (sym steps_left)

      module _ (r : Shortening) (after : List ℕ) (minimises : Minimises most_unmarked w (take tally.steps list) before r after) where
        there : MinimisesOf most_unmarked w (cheaper_list w l) before r after
        there = subst (λ k. MinimisesOf most_unmarked w k before r after) front_is (minimises_of most_unmarked w (take tally.steps list) before r after minimises)

        -- the minimal reduction answers
        pub licenses_irreducible : (least : Tally) (m : Mask) → r.answer ≡ Ok least
            → ((n : Reduction) → r.mask.words ≡ mask_words n → length n ≤ mask_bits → m.words ≡ mask_words (compose (mask l flags) n))
            → (given : Licensing) → given ≡ record { claim = Irreducible; told = record { answer = Ok least; mask = m; lodged = lodged; marked = length l - others } }
            → LicensesOf w l before given after
        licenses_irreducible least m is through given granted =
            let passes : answer (minimal_checks most_unmarked w (cheaper_list w l) (length before)) ≡ none = sym there.answers.refusal ∙ ap told_answer is in
            let few : unmarked w (cheaper_list w l) ≤ most_unmarked = passed_few w (cheaper_list w l) there_readable there_plan most_unmarked (length before) there_room passes in
            let short : length (minimal_of w (cheaper_list w l)) ≤ mask_bits = omega (arith, minimal_fits, there_readable.few) in
            subst (λ g. LicensesOf w l before g after) (sym granted)
            (licenses Irreducible least m after
            (claims_irreducible w l readable plan (lt-leb (unmarked w l) most_unmarked further.many) (le-leb (unmarked w (cheaper_list w l)) most_unmarked few))
            (record {
              counted = rw (passes, is) at there.answers.tally ∙ tally_through;
              told_by = through (minimal_of w (cheaper_list w l)) (rw passes at there.answers.told_by) short ∙ rw flags_leave.same;
              written = rw passes at there.answers.output ∙ ap (sets before 0) (sym (kept_compose (cheaper_of w l) (minimal_of w (cheaper_list w l)) l));
            }))

        -- or too many steps are unmarked there too
        pub licenses_open : (refusal : Refusal) (n : ℕ) (m : Mask) (after' : List ℕ) → r.answer ≡ Err refusal → n ≡ (told_refusal refusal).place → m.words ≡ words
            → after' ≡ sets after 0 (take tally.steps list)
            → (given : Licensing) → given ≡ record { claim = Open n; told = record { answer = Ok tally; mask = m; lodged = lodged; marked = length l - others } }
            → LicensesOf w l before given after'
        licenses_open refusal n m after' is counted told_by written given granted =
            let refuses : answer (minimal_checks most_unmarked w (cheaper_list w l) (length before)) ≡ some (told_refusal refusal) =
            sym there.answers.refusal ∙ ap told_answer is in
            let many : most_unmarked < unmarked w (cheaper_list w l) = refused_many w (cheaper_list w l) there_readable there_plan most_unmarked (length before) there_room _ refuses in
            let told : told_refusal refusal ≡ record { number = 12; place = unmarked w (cheaper_list w l) } =
            some-injective _ _ (sym refuses ∙ many_refused w (cheaper_list w l) there_readable there_plan most_unmarked (length before) there_room many) in
            let claims : claim_of w l ≡ Open n =
            claims_open w l readable plan (lt-leb (unmarked w l) most_unmarked further.many) (lt-leb (unmarked w (cheaper_list w l)) most_unmarked many)
            ∙ ap Open (sym (counted ∙ ap (λ t. t.place) told)) in
            let stays : after ≡ before = rw refuses at there.answers.output in
            subst (λ g. LicensesOf w l before g after') (sym granted)
            (licenses (Open n) tally m after' claims
            (record {
              counted = keeps_cheaper.counted;
              told_by = told_by ∙ keeps_cheaper.told_by;
              written = written ∙ rw (stays, front_is);
            }))
