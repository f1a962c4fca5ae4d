-- The passes find the landmarks of a plan that can be read: what the code makes of flags is a pass, each pass raises at least what one round more does and
-- nothing that is no landmark, and one that changes nothing has all. By the laws of passes, along the rounds. Assumes nothing.
use Prim.Native.Nat.{ℕ, zero, suc, ◌+◌, ◌-◌, ◌≤◌, ◌<◌}
use native.Mathlib.Omega.{arith}
use mathlib.Core.Path.{◌≡◌, refl, sym, ◌∙◌, ap}
use mathlib.Core.Logic.{⊎_elim}
use mathlib.Core.Bool.{true, false, false≢true}
use mathlib.Core.List.Memᴰ
use mathlib.Core.List.{List, [], ◌++◌, Memᴰ}
use lib.ListN.{length, take, drop, set, replicate, length-set, length-replicate, get_or-replicate, length-map}
use lib.Seq.{get_or-set_same}
use lib.Dec.{ltb}
use borrow.Author.Tests.{ltb-true, ltb-false}
use Rattle.sas.specs.Task.{Fact, Assignment, Action}
use Rattle.sas.specs.Plan.{needed, needs}
use Rattle.sas.specs.Between.WellFormed.{Known, Rising, ActionFormed}
use Rattle.sas.proofs.WellFormedLaws.{rising_known, rising_few, ActionsFormed}
use Rattle.reduction.specs.Reduction.{Reduction, keeps}
use Rattle.reduction.specs.Landmark.{step}
use Rattle.reduction.specs.Between.Order.{Contains}
use Rattle.reduction.specs.Between.Landmarks.{rounds, ends_alone, landmarks}
use Rattle.reduction.proofs.ReductionLaws.{kept_inside}
use Rattle.reduction.proofs.turns.HeldLaws.{each_step}
use Rattle.reduction.proofs.marks.FrameLaws.{framed_start, framed_step, framed_end, framed_past}
use Rattle.reduction.proofs.marks.LinkLaws.{either, before_or_at}
use Rattle.reduction.proofs.marks.RoundLaws.{up_more, up_why, same_flags}
use Rattle.reduction.proofs.marks.LandmarkTheorem.{step_flag, step_flags_length, ends_why, framed_length, flags, flags_length, flags_fit, start_up, end_up, last_closed}
use Rattle.sheet.specs.declared.group.Group.{Group}
use Rattle.sheet.specs.Limits.{limits}
use Rattle.sheet.specs.Decode.{initial, goal, domains, action}
use Rattle.sheet.specs.Between.Group.{goal_group, facts_in}
use Rattle.sheet.specs.Causes.{Accepted}
use Rattle.sheet.proofs.Parts.{accepted_measured}
use Rattle.sheet.proofs.Accepted.{domains_length}
use Rattle.sheet.proofs.GroupLaws.{goal_facts}
use Rattle.step.specs.State.{in_array}
use Rattle.plan.specs.Limits.{most_steps}
use Rattle.plan.specs.Valid.{steps}
use Rattle.plan.specs.Readable.{Readable}
use Rattle.plan.proofs.PlanLaws.{goal_rising, steps_formed}
use Rattle.reduced.specs.Between.Held.{flags_of}
use Rattle.fact_table.specs.Between.Tables.{most_facts}
use Rattle.landmark.specs.Marks.{marks}
use Rattle.trace.specs.Between.Traces.{trace_start, started}
use Rattle.landmark.specs.Between.Rows.{most_positions, row_start, supports_noted}
use Rattle.landmark.specs.Between.Passes.{framed_list, Walk, walk_tables, walked, closed, pass, ends_up, steps_held}
use Rattle.trace.proofs.StartTheorem.{start_sized, start_reads}
use Rattle.landmark.proofs.WalkTheorem.{Told, RowsTold, more_noted, told_along, closed_passes}
use Rattle.landmark.proofs.PassLaws.{pass_within, pass_length, pass_has_round}

module _ (w l : List ℕ) (readable : Readable w l) where
  accepted : Accepted w
  accepted = readable.accepted

  abbrev p : List Action
  p = steps w l

  abbrev q : List Action
  q = framed_list w l

  p_length : length p ≡ length l
  p_length = length-map l (action w)

  formed : ActionsFormed (domains w) p
  formed = steps_formed w l accepted readable.known

  -- what a position needs: nothing at the start and past the end
  needs_where : {P : Assignment → Type 0} → P [] → ((e : Assignment) → Rising (domains w) 0 e → P e) → (x : ℕ) → P (needed (step q x))
  unfolding needed
  needs_where {P} none rising zero = rw (framed_start (initial w) (goal w) p) none
  needs_where {P} none rising (suc i) =
      ⊎_elim
      (λ low.
      let inside : i < length p = ltb-true i (length p) low in
      rw (framed_step (initial w) (goal w) p i inside) (rising _ (each_step formed i inside).precondition))
      (λ high.
      ⊎_elim
      (λ past. rw (framed_past (initial w) (goal w) p i past) none)
      (λ at_end. rw (← at_end, framed_end (initial w) (goal w) p) (rising _ (goal_rising w accepted)))
      (before_or_at (length p) i (omega (arith, ltb-false i (length p) high))))
      (either (ltb i (length p)))

  few_needs : (x : ℕ) → length (needed (step q x)) ≤ limits.variables
  few_needs =
      needs_where {P = λ e. length e ≤ limits.variables} (omega arith)
      (λ e rising. omega (arith, rising_few rising, domains_length w, (accepted_measured w accepted).variables))

  known_needs : (x : ℕ) (f : Fact) → needs (step q x) f → Known (domains w) f
  known_needs =
      needs_where {P = λ e. (f : Fact) → Memᴰ f e → Known (domains w) f} (λ f m. absurd (Memᴰ.not-nil m))
      (λ e rising f m. rising_known rising m)

  start_needs : needed (step q 0) ≡ []
  unfolding needed
  start_needs = rw (framed_start (initial w) (goal w) p)

  end_needs : needed (step q (suc (length p))) ≡ goal w
  unfolding needed
  end_needs = rw (framed_end (initial w) (goal w) p)

  -- the tables behind the start step
  abbrev begun : List ℕ → Walk
  begun rows = walk_tables (replicate (trace_start most_facts) 0) (started (in_array (initial w)) limits.variables) rows

  module _ (m : Reduction) (up : keeps m 0) where
    begun_told : (rows : List ℕ) → length rows ≡ row_start most_positions → Told w accepted q m few_needs known_needs 1 (begun rows)
    begun_told rows sized =
        record {
          sized = start_sized w accepted;
          rows_sized = sized;
          reads = λ g known. start_reads w accepted q m g (framed_start (initial w) (goal w) p) up known;
          rows_told = λ x h. let first : x ≡ 0 = omega arith in rw (first, start_needs) tt;
        }

    steps_there : (i : ℕ) → i < length p → (step q (1 + i) ≡ step p i) × ActionFormed (domains w) (step p i)
    steps_there i h = let next : 1 + i ≡ suc i = omega arith in (rw next (framed_step (initial w) (goal w) p i h), each_step formed i h)

    -- what the code makes of the flags
    pub pass_made : (starts traces latest rows rows' rows'' : List ℕ) (g : Group) (next : Reduction) → length rows ≡ row_start most_positions
        → starts ≡ started (in_array (initial w)) limits.variables
        → walk_tables traces latest rows' ≡ walked m 1 p (walk_tables (replicate (trace_start most_facts) 0) starts rows)
        → g ≡ goal_group w → rows'' ≡ supports_noted traces (row_start (length l + 1)) (facts_in w g) rows' → next ≡ closed rows'' q (suc (suc (length l))) m
        → next ≡ pass q m
    pass_made starts traces latest rows rows' rows'' g next sized begins walks group notes closes =
        let t : Walk = walk_tables traces latest rows' in
        let along : Told w accepted q m few_needs known_needs (1 + length p) (walked m 1 p (begun rows))
        = told_along w accepted q m few_needs known_needs p 1 (begun rows) (omega arith) (omega (arith, p_length, readable.few)) steps_there (begun_told rows sized) in
        let behind : 1 + length p ≡ suc (length p) = omega arith in
        let told : Told w accepted q m few_needs known_needs (suc (length p)) t = rw (walks, begins, ← behind) along in
        let place : length l + 1 ≡ suc (length p) = omega (arith, p_length) in
        let facts : facts_in w g ≡ needed (step q (suc (length p))) = ap (facts_in w) group ∙ goal_facts w ∙ sym end_needs in
        let last_row : rows'' ≡ supports_noted traces (row_start (suc (length p))) (needed (step q (suc (length p)))) rows'
        = notes ∙ ap (λ x. supports_noted traces (row_start x) (facts_in w g) rows') place ∙ ap (λ e. supports_noted traces (row_start (suc (length p))) e rows') facts in
        let told_all : RowsTold w accepted q m few_needs known_needs (suc (suc (length p))) rows''
        = rw last_row (more_noted w accepted q m few_needs known_needs (suc (length p)) t (omega (arith, p_length, readable.few)) told) in
        let positions : suc (suc (length l)) ≡ length q = omega (arith, framed_length (initial w) (goal w) p, p_length) in
        let back : closed rows'' q (length q) m ≡ pass q m
        = closed_passes w accepted q m few_needs known_needs rows'' (suc (suc (length p))) (length q) m (omega (arith, framed_length (initial w) (goal w) p)) told_all in
        closes ∙ ap (λ x. closed rows'' q x m) positions ∙ back

  -- the flags of all positions after r rounds
  abbrev rounded : ℕ → Reduction
  rounded r = flags (initial w) (goal w) p r

  -- where the passes stand after r of them
  pub record Passing (r : ℕ) (m : Reduction) : Type 0 where
    pub sized : length m ≡ most_positions
    pub within : Contains (rounded (length p)) m
    pub reached : Contains m (rounded r)

  pub start_flagged : (r : ℕ) (m : Reduction) → Passing r m → keeps m 0
  start_flagged r m passing = passing.reached 0 (start_up (initial w) (goal w) p r)

  -- one pass raises what one round more does
  pass_rounds : (r : ℕ) (m : Reduction) → length m ≡ most_positions → Contains m (rounded r) → Contains (pass q m) (rounded (suc r))
  unfolding rounds
  pass_rounds r m sized reached =
      pass_has_round q m (rounded r) (flags_fit (initial w) (goal w) p r) (omega (arith, framed_length (initial w) (goal w) p, p_length, readable.few))
      (start_up (initial w) (goal w) p r) reached

  pub passing_more : (r : ℕ) (m next : Reduction) → Passing r m → next ≡ pass q m → Passing (suc r) next
  passing_more r m next passing is =
      rw is
      (record {
        sized = pass_length q m ∙ passing.sized;
        within = pass_within q m (rounded (length p)) (last_closed (initial w) (goal w) p) passing.within (start_up (initial w) (goal w) p (length p));
        reached = pass_rounds r m passing.sized passing.reached;
      })

  -- a pass that changes nothing has all rounds
  settled_reaches : (m : Reduction) → length m ≡ most_positions → pass q m ≡ m → Contains m (rounded 0) → (r : ℕ) → Contains m (rounded r)
  settled_reaches m sized settled first zero = first
  settled_reaches m sized settled first (suc r) = rw settled at (pass_rounds r m sized (settled_reaches m sized settled first r))

  -- flags of all landmarks and no others are told as the marks
  module _ (m : Reduction) (sized : length m ≡ most_positions) (within : Contains (rounded (length p)) m) (reached : Contains m (rounded (length p))) where
    abbrev found : Reduction
    found = take (length p) (drop 1 m)

    abbrev due : Reduction
    due = take (length p) (drop 1 (rounded (length p)))

    found_length : length found ≡ length p
    found_length = step_flags_length (length p) m (omega (arith, p_length, readable.few))

    due_length : length due ≡ length p
    due_length = step_flags_length (length p) (rounded (length p)) (omega (arith, flags_length (initial w) (goal w) p (length p)))

    -- a flag of one is a flag of the other, where its position is
    from_to : (a b : Reduction) (i : ℕ) → length (take (length p) (drop 1 a)) ≡ length p → Contains b a → keeps (take (length p) (drop 1 a)) i → keeps (take (length p) (drop 1 b)) i
    from_to a b i long more up =
        let inside : i < length p = rw long at (kept_inside (take (length p) (drop 1 a)) i up) in
        step_flag (length p) b i inside ∙ more (suc i) (sym (step_flag (length p) a i inside) ∙ up)

    all_found : steps_held (length l) m ≡ flags_of l (marks w l)
    unfolding marks landmarks
    all_found =
        let same : found ≡ due
        = same_flags due found (found_length ∙ sym due_length)
        (λ i. from_to (rounded (length p)) m i due_length reached)
        (λ i. from_to m (rounded (length p)) i found_length within) in
        ap (λ n. take n (drop 1 m) ++ replicate (most_steps - length l) false) (sym p_length) ∙ ap (λ n. n ++ replicate (most_steps - length l) false) same

  -- start and end alone are the first round, and in every other
  ends_alone_first : (k : ℕ) → keeps (rounded 0) k → keeps (ends_alone p) k
  unfolding rounds
  ends_alone_first k up = up

  first_stay : (r : ℕ) → Contains (rounded r) (rounded 0)
  first_stay r k up =
      ⊎_elim
      (λ first. rw first (start_up (initial w) (goal w) p r))
      (λ last. rw last (end_up (initial w) (goal w) p r))
      (ends_why p k (ends_alone_first k up))

  module _ (r : ℕ) (m : Reduction) (passing : Passing r m) where
    -- after as many passes as there are steps
    pub passed_all : r ≡ length l → steps_held (length l) m ≡ flags_of l (marks w l)
    passed_all all = all_found m passing.sized passing.within (rw (all, ← p_length) at passing.reached)

    -- and as soon as one changes nothing
    pub passed_settled : pass q m ≡ m → steps_held (length l) m ≡ flags_of l (marks w l)
    passed_settled settled =
        all_found m passing.sized passing.within
        (settled_reaches m passing.sized settled (λ k up. passing.reached k (first_stay r k up)) (length p))

  -- start and end alone
  abbrev none_up : Reduction
  none_up = replicate most_positions false

  start_alone : length (set none_up 0 true) ≡ most_positions
  start_alone = length-set none_up 0 true ∙ length-replicate most_positions false

  pub passing_start : Passing 0 (ends_up (length l))
  passing_start = record { sized = length-set (set none_up 0 true) (length l + 1) true ∙ start_alone; within = ends_within; reached = ends_reached }
    where
      end : length l + 1 ≡ suc (length p)
      end = omega (arith, p_length)

      nothing_up : (k : ℕ) → keeps none_up k → ⊥
      nothing_up k up =
          let inside : k < most_positions = rw (length-replicate most_positions false) at (kept_inside none_up k up) in
          false≢true (sym (get_or-replicate most_positions k false false inside) ∙ up)

      ends_within : Contains (rounded (length p)) (ends_up (length l))
      ends_within k up =
          ⊎_elim
          (λ before.
          ⊎_elim
          (λ none. absurd (nothing_up k none))
          (λ first. rw (← first) (start_up (initial w) (goal w) p (length p)))
          (up_why none_up 0 k before))
          (λ last. rw (← last, end) (end_up (initial w) (goal w) p (length p)))
          (up_why (set none_up 0 true) (length l + 1) k up)

      ends_reached : Contains (ends_up (length l)) (rounded 0)
      ends_reached k up =
          ⊎_elim
          (λ first. rw first (up_more (set none_up 0 true) (length l + 1) 0 refl))
          (λ last.
          let there : k ≡ length l + 1 = last ∙ sym end in
          rw there (get_or-set_same (set none_up 0 true) (length l + 1) true false (omega (arith, start_alone, readable.few))))
          (ends_why p k (ends_alone_first k up))
