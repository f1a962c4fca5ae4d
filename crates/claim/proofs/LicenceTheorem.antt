-- What `license` claims of a list holds: the reduction of each claim is valid and no dearer than what either elimination leaves, and the claim is true of what it
-- leaves. Beside it, that a list whose steps are all marked has no valid striking but the whole. Nothing here is about the code: its contract cites the same definitions.
-- Assumes nothing.
use Prim.Native.Nat.{ℕ, ◌≤◌, ◌<◌}
use native.Mathlib.Omega.{arith}
use mathlib.Core.Path.{◌≡◌, refl, sym, ◌∙◌, ap, subst}
use mathlib.Core.Bool.{Bool, true, false}
use mathlib.Core.List.{List}
use lib.ListN.{length, replicate, length-map}
use lib.Dec.{leb}
use borrow.Author.Tests.{leb-true, leb-false, le-leb, lt-leb}
use Rattle.sas.specs.Plan.{Plan, cost}
use Rattle.reduction.specs.Reduction.{Reduction, kept, whole, compose, ValidReduction}
use Rattle.reduction.specs.Landmark.{Landmark}
use Rattle.reduction.specs.Minimal.{MinimalReduction}
use Rattle.reduction.proofs.ReductionLaws.{kept_lodged, left_length, left_cost, reduced_plan, kept_compose, compose_valid}
use Rattle.reduction.proofs.minimal.MinimalTheorem.{minimal_once, nothing_more}
use Rattle.reduction.proofs.marks.LandmarksKept.{all_marked_whole}
use Rattle.sheet.specs.Decode.{goal, initial, action, task}
use Rattle.plan.specs.Valid.{steps}
use Rattle.plan.specs.Readable.{Readable}
use Rattle.plan.proofs.PlanLaws.{steps_formed}
use Rattle.reduced.proofs.TalliedLaws.{kept_steps}
use Rattle.landmark.specs.Marks.{unmarked}
use Rattle.elimination.specs.declared.single.Elimination.{Elimination}
use Rattle.elimination.specs.Between.Left.{left_by}
use Rattle.cheaper.specs.Between.Computed.{cheaper_of}
use Rattle.elimination.proofs.LeavesLaws.{rule_leaves, left_valid}
use Rattle.cheaper.specs.Cheaper.{LeftByCheaper}
use Rattle.cheaper.proofs.CheaperLaws.{cheaper_so, cheaper_once, cheaper_valid}
use Rattle.cheaper.proofs.CheaperTheorem.{cheaper_no_dearer}
use Rattle.minimal.specs.Minimised.{most_unmarked}
use Rattle.minimal.specs.Between.Computed.{minimal_of}
use Rattle.minimal.specs.Statement.{ValidStriking}
use Rattle.minimal.proofs.DemandThree.{valid_list, is_minimal, are_marks}
use Rattle.claim.specs.declared.answer.Claim.{Claim}
use Rattle.claim.specs.declared.answer.Claim.TheVariants.{Least, Irreducible, Open}
use Rattle.claim.specs.Between.Computed.{claim_of, claimed_by, licensed_of, cheaper_list}
use Rattle.claim.specs.Statement.{NothingToStrike, MarkedIsWhole, Claimed, Licence}

whole_steps : (w l : List ℕ) → whole (steps w l) ≡ whole l
whole_steps w l = ap (λ n. replicate n true) (length-map l (action w))

-- a valid list whose steps are all marked has no valid striking but the whole
pub marked_is_whole : (w l : List ℕ) → MarkedIsWhole w l
marked_is_whole w l readable plan marked m =
    let all : (i : ℕ) → i < length (steps w l) → Landmark (initial w) (goal w) (steps w l) i = λ i inside. marked i (omega (arith, length-map l (action w))) in
    let just = all_marked_whole (initial w) (goal w) (steps w l) (steps_formed w l readable.accepted readable.known) (valid_list w l readable plan) all m in
    (λ v. just.0 v ∙ whole_steps w l, λ same. just.1 (same ∙ sym (whole_steps w l)))

module _ (w l : List ℕ) (readable : Readable w l) (plan : Plan (task w) (steps w l)) where
  -- the list that a valid reduction leaves can be read and is a plan
  pub left_readable : (m : Reduction) → length m ≡ length l → Readable w (kept m l)
  left_readable m fits =
      record {
        accepted = readable.accepted;
        few = omega (arith, left_length m l fits, readable.few);
        known = λ a left. readable.known a (kept_lodged m l left);
      }

  pub left_plan : (m : Reduction) → ValidStriking w l m → Plan (task w) (steps w (kept m l))
  unfolding task
  left_plan m v = subst (Plan (task w)) (kept_steps w l m) (reduced_plan (task w) (steps w l) m plan v)

  -- nothing can be struck from what the minimal reduction leaves
  nothing_left : (m : Reduction) → MinimalReduction (initial w) (goal w) (steps w l) m → NothingToStrike w (kept m l)
  nothing_left m minimal n v =
      nothing_more minimal n (subst (λ p. ValidReduction (initial w) (goal w) p n) (sym (kept_steps w l m)) v)
      ∙ ap whole (kept_steps w l m) ∙ whole_steps w (kept m l)

module _ (w l : List ℕ) (readable : Readable w l) (plan : Plan (task w) (steps w l)) where
  by_cheaper : LeftByCheaper w l (cheaper_of w l)
  by_cheaper = cheaper_so w l (valid_list w l readable plan)

  cheaper_is_of : (m : Reduction) → LeftByCheaper w l m → m ≡ cheaper_of w l
  cheaper_is_of m left = cheaper_once w l (valid_list w l readable plan) m left

  cheaper_reduction : ValidStriking w l (cheaper_of w l)
  cheaper_reduction = cheaper_valid w l readable (valid_list w l readable plan)

  -- the list that the cheaper elimination leaves can be read and is a plan
  pub cheaper_readable : Readable w (cheaper_list w l)
  cheaper_readable = left_readable w l readable plan (cheaper_of w l) (cheaper_reduction.fits ∙ length-map l (action w))

  pub cheaper_plan : Plan (task w) (steps w (cheaper_list w l))
  cheaper_plan = left_plan w l readable plan (cheaper_of w l) cheaper_reduction

  minimal_there : MinimalReduction (initial w) (goal w) (steps w (cheaper_list w l)) (minimal_of w (cheaper_list w l))
  minimal_there = is_minimal w (cheaper_list w l) cheaper_readable cheaper_plan

  -- as a reduction of what the cheaper elimination leaves of the steps
  valid_there : ValidReduction (initial w) (goal w) (kept (cheaper_of w l) (steps w l)) (minimal_of w (cheaper_list w l))
  valid_there = subst (λ p. ValidReduction (initial w) (goal w) p (minimal_of w (cheaper_list w l))) (sym (kept_steps w l (cheaper_of w l))) minimal_there.valid

  both_valid : ValidStriking w l (claimed_by Irreducible w l)
  both_valid = compose_valid (steps w l) (cheaper_of w l) (minimal_of w (cheaper_list w l)) cheaper_reduction.fits valid_there

  -- costs
  cheaper_dear : (by : Elimination) → cost (kept (cheaper_of w l) (steps w l)) ≤ cost (kept (left_by by w l) (steps w l))
  cheaper_dear by = cheaper_no_dearer w l readable (valid_list w l readable plan) by

  minimal_dear : (by : Elimination) → cost (kept (minimal_of w l) (steps w l)) ≤ cost (kept (left_by by w l) (steps w l))
  minimal_dear by = ((is_minimal w l readable plan).wins (left_by by w l) (left_valid w l readable (valid_list w l readable plan) by)).no_dearer

  both_dear : (by : Elimination) → cost (kept (claimed_by Irreducible w l) (steps w l)) ≤ cost (kept (left_by by w l) (steps w l))
  both_dear by =
      let further : cost (kept (minimal_of w (cheaper_list w l)) (kept (cheaper_of w l) (steps w l))) ≤ cost (kept (cheaper_of w l) (steps w l)) =
      left_cost (minimal_of w (cheaper_list w l)) (kept (cheaper_of w l) (steps w l)) valid_there.fits in
      rw (kept_compose (cheaper_of w l) (minimal_of w (cheaper_list w l)) (steps w l)) (omega (arith, further, cheaper_dear by))

  both_nothing : NothingToStrike w (kept (claimed_by Irreducible w l) l)
  both_nothing =
      subst (NothingToStrike w) (sym (kept_compose (cheaper_of w l) (minimal_of w (cheaper_list w l)) l))
      (nothing_left w (cheaper_list w l) cheaper_readable cheaper_plan (minimal_of w (cheaper_list w l)) minimal_there)

  -- the claims
  pub claims_least : leb (unmarked w l) most_unmarked ≡ true → claim_of w l ≡ Least
  unfolding claim_of
  claims_least few = rw (claim_of, few)

  pub claims_irreducible : leb (unmarked w l) most_unmarked ≡ false → leb (unmarked w (cheaper_list w l)) most_unmarked ≡ true → claim_of w l ≡ Irreducible
  unfolding claim_of
  claims_irreducible many few = rw (claim_of, many, few)

  pub claims_open : leb (unmarked w l) most_unmarked ≡ false → leb (unmarked w (cheaper_list w l)) most_unmarked ≡ false
      → claim_of w l ≡ Open (unmarked w (cheaper_list w l))
  unfolding claim_of
  claims_open many still = rw (claim_of, many, still)

  licence_for : (claim : Claim) → claim_of w l ≡ claim → ValidStriking w l (claimed_by claim w l)
      → ((by : Elimination) → cost (kept (claimed_by claim w l) (steps w l)) ≤ cost (kept (left_by by w l) (steps w l))) → Claimed w l claim (claimed_by claim w l)
      → Licence w l (claim_of w l) (licensed_of w l)
  unfolding task
  licence_for claim is valid_left no_dearer claimed =
      subst (λ c. Licence w l c (claimed_by c w l)) (sym is)
      (record {
        claimed = claimed;
        flagged = are_marks w;
        valid_left = valid_left;
        plan_left = reduced_plan (task w) (steps w l) (claimed_by claim w l) plan valid_left;
        no_dearer = λ by m leaves. subst (λ n. cost (kept (claimed_by claim w l) (steps w l)) ≤ cost (kept n (steps w l)))
            (sym ((rule_leaves w l (valid_list w l readable plan) by m).1 leaves)) (no_dearer by);
      })

  pub licence_of : Licence w l (claim_of w l) (licensed_of w l)
  licence_of = by_case (leb (unmarked w l) most_unmarked) refl (leb (unmarked w (cheaper_list w l)) most_unmarked) refl
    where
      least : MinimalReduction (initial w) (goal w) (steps w l) (minimal_of w l)
      least = is_minimal w l readable plan

      by_case : (b : Bool) → leb (unmarked w l) most_unmarked ≡ b → (c : Bool) → leb (unmarked w (cheaper_list w l)) most_unmarked ≡ c
          → Licence w l (claim_of w l) (licensed_of w l)
      by_case true e c f = licence_for Least (claims_least e) least.valid minimal_dear (leb-true (unmarked w l) most_unmarked e, least, nothing_left w l readable plan (minimal_of w l) least)
      by_case false e true f = licence_for Irreducible (claims_irreducible e f) both_valid both_dear
          (leb-false (unmarked w l) most_unmarked e, (cheaper_of w l, minimal_of w (cheaper_list w l), by_cheaper, leb-true (unmarked w (cheaper_list w l)) most_unmarked f, minimal_there, refl), both_nothing)
      by_case false e false f = licence_for (Open (unmarked w (cheaper_list w l))) (claims_open e f) cheaper_reduction cheaper_dear
          (leb-false (unmarked w l) most_unmarked e, leb-false (unmarked w (cheaper_list w l)) most_unmarked f, refl, by_cheaper)

  -- and there is no other licence
  pub licence_once : (claim : Claim) (left : Reduction) → Licence w l claim left → (claim ≡ claim_of w l) × (left ≡ licensed_of w l)
  licence_once Least left licence =
      let (few, minimal, nothing) = licence.claimed in
      let claims : claim_of w l ≡ Least = claims_least (le-leb (unmarked w l) most_unmarked few) in
      (sym claims, minimal_once (λ m v. v.fits) minimal (is_minimal w l readable plan) ∙ ap (λ c. claimed_by c w l) (sym claims))
  licence_once Irreducible left licence =
      let (many, (c, m, leaves, few, minimal, through), nothing) = licence.claimed in
      let is : c ≡ cheaper_of w l = cheaper_is_of c leaves in
      let few_there : unmarked w (cheaper_list w l) ≤ most_unmarked = subst (λ x. unmarked w (kept x l) ≤ most_unmarked) is few in
      let of_it : MinimalReduction (initial w) (goal w) (steps w (cheaper_list w l)) m = subst (λ x. MinimalReduction (initial w) (goal w) (steps w (kept x l)) m) is minimal in
      let claims : claim_of w l ≡ Irreducible =
      claims_irreducible (lt-leb (unmarked w l) most_unmarked many) (le-leb (unmarked w (cheaper_list w l)) most_unmarked few_there) in (
        sym claims,
        through ∙ ap (λ x. compose x m) is ∙ ap (compose (cheaper_of w l)) (minimal_once (λ n v. v.fits) of_it minimal_there) ∙ ap (λ x. claimed_by x w l) (sym claims),
      )
  licence_once (Open n) left licence =
      let (many, still, counted, leaves) = licence.claimed in
      let is : left ≡ cheaper_of w l = cheaper_is_of left leaves in
      let there : n ≡ unmarked w (cheaper_list w l) = counted ∙ ap (λ m. unmarked w (kept m l)) is in
      let claims : claim_of w l ≡ Open n =
      claims_open (lt-leb (unmarked w l) most_unmarked many) (lt-leb (unmarked w (cheaper_list w l)) most_unmarked (subst (λ k. most_unmarked < k) there still)) ∙ ap Open (sym there) in
      (sym claims, is ∙ ap (λ c. claimed_by c w l) (sym claims))
