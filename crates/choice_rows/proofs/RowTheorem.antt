-- What the rows of an unflagged step tell of a state in bytes, and write over it: whether the step may be struck, whether it can be done, and whether what of
-- use it may write holds already; and the state before the next unflagged step, where it is struck and where it is kept, since each flagged step on the way
-- there was written into these rows. By induction on the index. Assumes nothing.
use Prim.Native.Nat.{ℕ, suc, ◌-◌, ◌%◌, ◌≤◌, ◌<◌}
use native.Mathlib.Decide.{le_ind}
use native.Mathlib.Omega.{arith}
use mathlib.Core.Path.{◌≡◌, sym, ◌∙◌, ap}
use mathlib.Core.Bool.{true, false}
use mathlib.Core.List.{List}
use lib.ListN.{length, get_or, take, replicate, length-map, length-replicate, get_or-map, get_or-append}
use lib.Seq.{length-sets}
use lib.Dec.{eqb}
use borrow.Author.Tests.{lt-ltb}
use Rattle.sas.specs.Task.{Fact}
use Rattle.sas.specs.Plan.{holds, applicable, written, needed}
use Rattle.sas.specs.Between.WellFormed.{Known, ActionFormed, Plain}
use Rattle.sas.proofs.ActionLaws.{applicable_needed}
use Rattle.sas.proofs.WellFormedLaws.{ActionsPlain, rising_few}
use Rattle.reduction.specs.Reduction.{Reduction}
use Rattle.reduction.specs.Landmark.{step}
use Rattle.reduction.specs.Between.Search.{Visit}
use Rattle.reduction.specs.Between.Course.{held, OnCourse}
use Rattle.reduction.proofs.turns.HeldLaws.{each_step, held_kept, held_struck, held_alike}
use Rattle.sheet.specs.Limits.{limits}
use Rattle.sheet.specs.Layout.{cost_word}
use Rattle.sheet.specs.Decode.{domains, initial, goal, action, task}
use Rattle.sheet.proofs.Parts.{accepted_measured}
use Rattle.sheet.proofs.Accepted.{domains_length, domain_limits, accepted_well_formed}
use Rattle.plan.specs.Valid.{steps}
use Rattle.plan.proofs.PlanLaws.{steps_at, steps_formed}
use Rattle.plan.specs.Readable.{Readable}
use Rattle.step.specs.State.{in_array}
use Rattle.step.proofs.StateLaws.{array_parts, few_variables}
use Rattle.fact_bits.specs.declared.bits.Behind.{Behind}
use Rattle.fact_bits.specs.Between.Bits.{no_bits, bits_hold}
use Rattle.packed_state.specs.declared.packed.Row.{Row}
use Rattle.packed_state.specs.Between.Chosen.{open_before}
use Rattle.packed_state.specs.Between.Packed.{state_bytes, no_row, has_all, written_over, packed_start, TellsState}
use Rattle.packed_state.proofs.ChosenLaws.{open_unflagged, open_stays, NextOpen}
use Rattle.packed_state.proofs.PackedLaws.{over_length}
use Rattle.choice_rows.specs.declared.rows.Choice.{Choice}
use Rattle.choice_rows.specs.Between.Rows.{all_bits, stamped_row, no_choice, choice_of, passed, start_before, choices_before}
use Rattle.choice_rows.proofs.RowWriteLaws.{has_byte, RowSized, no_row_sized, stamped_sized, stamped_asked, all_bits_hold, none_written, stamped_held}
use Rattle.choice_rows.proofs.ChoiceLaws.{SameAsked, passed_there, choice_there, asked_stays, choice_done, start_passed, start_done}

-- bytes tell of each known fact whether it holds
abbrev BytesTell : List ℕ → List ℕ → Reduction → ℕ → List ℕ → Type 0
BytesTell w l m i b = (f : Fact) → Known (domains w) f → eqb (get_or b f.variable 0) f.value ≡ held (initial w) (steps w l) m f i

-- the starting values in bytes tell which facts hold at first
module _ (w l : List ℕ) (readable : Readable w l) (n : Reduction) where
  initial_complete : length (initial w) ≡ length (domains w)
  unfolding task
  initial_complete = (accepted_well_formed w readable.accepted).initial.complete

  -- no value is changed by its remainder
  start_at : (v : ℕ) → v < length (domains w) → get_or (packed_start (in_array (initial w))) v 0 ≡ get_or (initial w) v 0
  unfolding task
  start_at v below =
      let small : get_or (initial w) v 0 < limits.values =
      omega (
        arith,
        (accepted_well_formed w readable.accepted).initial.below v below,
        (domain_limits w readable.accepted v (rw (domains_length w) at below)).1,
      ) in
      get_or-map (λ x. x % limits.values) (in_array (initial w)) v 0
      ∙ ap (λ s. get_or s v 0 % limits.values) (array_parts (initial w) (few_variables w readable.accepted))
      ∙ ap (λ x. x % limits.values) (get_or-append (initial w) _ 0 v (omega (arith, initial_complete)))
      ∙ omega arith

  packed_start_tells : TellsState w l n 0 (packed_start (in_array (initial w)))
  unfolding in_array held holds
  packed_start_tells =
      record {
        sized =
            length-map (in_array (initial w)) (λ x. x % limits.values) ∙ length-sets (replicate limits.variables 0) 0 (initial w)
            ∙ length-replicate {A = ℕ} limits.variables 0;
        tells = λ f known.
            rw (start_at f.variable known.variable, lt-ltb f.variable (length (initial w)) (omega (arith, initial_complete, known.variable)));
      }

-- a state has room for all variables
narrow : (w l : List ℕ) → Readable w l → length (domains w) ≤ state_bytes
narrow w l readable = omega (arith, domains_length w, (accepted_measured w readable.accepted).variables)

module _ (w l : List ℕ) (flags : Reduction) (behind : List Behind) (readable : Readable w l) (plain : ActionsPlain (domains w) (steps w l)) where
  -- the choice at an unflagged step, of all steps before an index
  abbrev choice_to : ℕ → ℕ → Choice
  choice_to i c = get_or (choices_before w l flags behind i) c no_choice

  module _ (i : ℕ) (inside : i < length l) where
    -- the step there is over the domains
    formed_at : ActionFormed (domains w) (action w (get_or l i 0))
    formed_at = rw (steps_at w l i inside) at (each_step (steps_formed w l readable.accepted readable.known) i (rw (length-map l (action w)) inside))

    -- and plain
    plain_at : Plain (domains w) (action w (get_or l i 0))
    plain_at = rw (steps_at w l i inside) at (each_step plain i (rw (length-map l (action w)) inside))

  module _ (v : Visit) (course : OnCourse (goal w) (initial w) (steps w l) flags v) (inside : v.index < length l)
      (down : get_or flags v.index false ≡ false) (b : List ℕ) (told : TellsState w l v.so_far v.index b) where
    told_there : (f : Fact) → Known (domains w) f → has_byte b f ≡ holds v.state f
    told_there f known = told.tells f known ∙ sym (course.told f)

    same_there : SameAsked (choice_to (length l) (open_before flags v.index)) (choice_of w (get_or l v.index 0) (get_or behind v.index no_bits))
    same_there = asked_stays w l flags behind v.index (length l) inside down

    -- the row of a strike tells whether what is wanted of what the step may write holds
    pub strike_row_tells : has_all (get_or (choices_before w l flags behind (length l)) (open_before flags v.index) no_choice).strike b
        ≡ bits_hold v.state (get_or behind v.index no_bits).wanted (written (step (steps w l) v.index))
    unfolding choice_of
    strike_row_tells =
        rw same_there.strike
        (stamped_asked (narrow w l readable) b v.state told_there (get_or behind v.index no_bits).wanted (plain_at v.index inside).rising
        ∙ rw (steps_at w l v.index inside))

    -- that of a keep tells whether the step can be done
    pub keep_row_tells : has_all (get_or (choices_before w l flags behind (length l)) (open_before flags v.index) no_choice).keep b
        ≡ applicable v.state (step (steps w l) v.index)
    unfolding choice_of needed
    keep_row_tells =
        let few : length (needed (action w (get_or l v.index 0))) ≤ state_bytes = omega (arith, narrow w l readable, rising_few (formed_at v.index inside).precondition) in
        rw same_there.keep
        (stamped_asked (narrow w l readable) b v.state told_there all_bits (formed_at v.index inside).precondition
        ∙ all_bits_hold v.state (needed (action w (get_or l v.index 0))) few
        ∙ sym (applicable_needed v.state (action w (get_or l v.index 0)))
        ∙ rw (steps_at w l v.index inside))

    -- and that of its use whether what of use it may write holds
    pub use_row_tells : has_all (get_or (choices_before w l flags behind (length l)) (open_before flags v.index) no_choice).useful b
        ≡ bits_hold v.state (all_bits - (get_or behind v.index no_bits).useless) (written (step (steps w l) v.index))
    unfolding choice_of
    use_row_tells =
        rw same_there.useful
        (stamped_asked (narrow w l readable) b v.state told_there (all_bits - (get_or behind v.index no_bits).useless) (plain_at v.index inside).rising
        ∙ rw (steps_at w l v.index inside))

  -- a row into which the flagged steps from index i on are written, which n keeps, writes the state before the next unflagged one
  module _ (n : Reduction) (i j : ℕ) (next : NextOpen flags i (length l) j) (keeps : (k : ℕ) → i ≤ k → k < j → get_or n k false ≡ true) (b : List ℕ) where
    passed_on : (row : ℕ → Row) → ((k : ℕ) → i ≤ k → k < j → row (suc k) ≡ stamped_row (row k) all_bits (written (action w (get_or l k 0))))
        → RowSized (row i) → BytesTell w l n i (written_over (row i) b) → TellsState w l n j (written_over (row j) b)
    passed_on row grows sized before =
        let all : RowSized (row j) × BytesTell w l n j (written_over (row j) b) =
        le_ind (λ k. k ≤ j → RowSized (row k) × BytesTell w l n k (written_over (row k) b)) (λ h. (sized, before))
        (λ k later so_far h. on k later h (so_far (omega arith))) j next.later (omega arith) in
        record { sized = over_length (row j) b; tells = all.1 }
      where
        on : (k : ℕ) → i ≤ k → suc k ≤ j → RowSized (row k) × BytesTell w l n k (written_over (row k) b)
            → RowSized (row (suc k)) × BytesTell w l n (suc k) (written_over (row (suc k)) b)
        on k later h (size, tells) =
            let inside : k < length l = omega (arith, next.within) in
            rw (grows k later h) (
              stamped_sized (row k) all_bits (written (action w (get_or l k 0))) size,
              λ f known.
                  stamped_held (narrow w l readable) b (row k) size (action w (get_or l k 0)) (plain_at k inside) f known
                  ∙ rw (tells f known, ← steps_at w l k inside) (sym (held_kept (initial w) (steps w l) n f k (keeps k later h))),
            )

    open_there : (k : ℕ) → i ≤ k → k < j → open_before flags k ≡ open_before flags i
    open_there k later below = open_stays flags i k later (λ o above under. next.passed o above (omega arith))

    open_next : open_before flags j ≡ open_before flags i
    open_next = open_stays flags i j next.later next.passed

  module _ (i : ℕ) (inside : i < length l) (down : get_or flags i false ≡ false) (m n : Reduction) (j : ℕ) (next : NextOpen flags (suc i) (length l) j)
      (keeps : (k : ℕ) → i < k → k < j → get_or n k false ≡ true) (alike : take i n ≡ take i m) (b : List ℕ) (told : TellsState w l m i b) where
    told_alike : (f : Fact) → Known (domains w) f → has_byte b f ≡ held (initial w) (steps w l) n f i
    told_alike f known = told.tells f known ∙ sym (held_alike (initial w) (steps w l) n m f i alike)

    abbrev c : ℕ
    c = open_before flags i

    -- the choice there is the last up to the next unflagged step
    last_there : (k : ℕ) → suc i ≤ k → k < j → open_before flags k ≡ suc c
    last_there k later below = open_there n (suc i) j next keeps b k later below ∙ open_unflagged flags i down

    done_there : choice_to (length l) c ≡ choice_to j c
    done_there =
        choice_done w l flags behind j c (length l) (sym (open_next n (suc i) j next keeps b ∙ open_unflagged flags i down)) next.within next.unflagged

    -- where the step is struck, its row of that writes the state before the next unflagged step
    pub struck_row_writes : get_or n i false ≡ false
        → TellsState w l n j (written_over (get_or (choices_before w l flags behind (length l)) (open_before flags i) no_choice).struck b)
    unfolding choice_of passed
    struck_row_writes out =
        rw done_there
        (passed_on n (suc i) j next keeps b (λ k. (choice_to k c).struck)
        (λ k later below. ap (λ x. x.struck) (passed_there w l flags behind k c (next.passed k later below) (last_there k later below)))
        (rw (choice_there w l flags behind i down) no_row_sized)
        (λ f known.
        rw (choice_there w l flags behind i down, none_written b told.sized)
        (told_alike f known ∙ sym (held_struck (initial w) (steps w l) n f i out))))

    -- where it is kept, its row of that does
    pub kept_row_writes : get_or n i false ≡ true
        → TellsState w l n j (written_over (get_or (choices_before w l flags behind (length l)) (open_before flags i) no_choice).kept b)
    unfolding choice_of passed
    kept_row_writes up =
        rw done_there
        (passed_on n (suc i) j next keeps b (λ k. (choice_to k c).kept)
        (λ k later below. ap (λ x. x.kept) (passed_there w l flags behind k c (next.passed k later below) (last_there k later below)))
        (rw (choice_there w l flags behind i down) (stamped_sized no_row all_bits (written (action w (get_or l i 0))) no_row_sized))
        (λ f known.
        rw (choice_there w l flags behind i down)
        (stamped_held (narrow w l readable) b no_row no_row_sized (action w (get_or l i 0)) (plain_at i inside) f known
        ∙ rw (none_written b told.sized, told_alike f known, ← steps_at w l i inside) (sym (held_kept (initial w) (steps w l) n f i up)))))

  -- the state before the first unflagged step
  pub start_row_writes : (n : Reduction) (j : ℕ) → NextOpen flags 0 (length l) j → ((k : ℕ) → k < j → get_or n k false ≡ true)
      → TellsState w l n j (written_over (start_before w l flags (length l)) (packed_start (in_array (initial w))))
  unfolding open_before start_before
  start_row_writes n j next keeps =
      let start : List ℕ = packed_start (in_array (initial w)) in
      let tells : TellsState w l n 0 start = packed_start_tells w l readable n in
      rw (start_done w l flags behind j (length l) next.within next.unflagged)
      (passed_on n 0 j next (λ k above below. keeps k below) start (start_before w l flags)
      (λ k later below. start_passed w l flags behind k (next.passed k later below) (open_there n 0 j next (λ o above under. keeps o under) start k later below))
      no_row_sized (rw (none_written start tells.sized) tells.tells))

  -- the cost of an unflagged step stands at its number
  pub cost_tells : (i : ℕ) → i < length l → get_or flags i false ≡ false
      → (get_or (choices_before w l flags behind (length l)) (open_before flags i) no_choice).cost ≡ cost_word w (get_or l i 0)
  unfolding choice_of
  cost_tells i inside down = (asked_stays w l flags behind i (length l) inside down).cost
