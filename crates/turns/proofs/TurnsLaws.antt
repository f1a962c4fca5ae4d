-- What each way through the two turns makes of the reduction so far and the best, by the laws of the turns of the search: the code's tests are theirs, by what the
-- rows tell, and what it calls at the next unflagged step is theirs there, since flagged steps are passed. What the code calls is a variable here, with what is known
-- of it as a premise. Assumes nothing.
use Prim.Native.Nat.{ℕ, suc, ◌+◌, ◌-◌, ◌≤◌, ◌<◌}
use native.Mathlib.Numerals.{add-one}
use native.Mathlib.Omega.{arith}
use mathlib.Core.Path.{◌≡◌, refl, sym, ◌∙◌, ap, subst}
use mathlib.Core.Bool.{Bool, true, false, not, ◌&&◌, and-false}
use mathlib.Core.List.{List, [], ◌∷◌}
use lib.ListN.{length, get_or, set, take, drop, length-map, drop_of_length-le}
use lib.Dec.{ltb, eqb}
use lib.Seq.{drop-cons, get_or-set_same, take-set-le}
use lib.Bits.{bit_or}
use borrow.Author.Tests.{ltb-true, ltb-false, eqb-true, eqb-false, not-true, not-false}
use Rattle.sas.specs.Task.{idle}
use Rattle.sas.specs.Plan.{applicable}
use Rattle.sas.specs.Between.WellFormed.{Plain}
use Rattle.sas.proofs.WellFormedLaws.{ActionsPlain}
use Rattle.reduction.specs.Reduction.{Reduction}
use Rattle.reduction.specs.Landmark.{step}
use Rattle.reduction.specs.Between.Order.{Contains}
use Rattle.reduction.specs.Between.Search.{Visit, Tests, struck, done, handed, bound}
use Rattle.reduction.specs.Between.Search.Turn.{strike, keep}
use Rattle.reduction.specs.Between.Cuts.{wanted_held, useful, tests}
use Rattle.reduction.specs.Between.Course.{OnCourse}
use Rattle.reduction.proofs.turns.TurnLaws.{turns, strike_met, strike_not_lower, keep_end, strike_barred, strike_goes_on, keep_stuck, keep_barred, keep_goes_on}
use Rattle.reduction.proofs.turns.CourseLaws.{MovesTo, moved, course_handed, course_ends, course_struck, course_done, course_runs}
use Rattle.reduction.proofs.ReductionLaws.{alike_behind}
use Rattle.reduction.proofs.turns.HeldLaws.{each_step}
use Rattle.tally.specs.Tally.{one_more, comparison}
use Rattle.sheet.specs.Layout.{cost_word}
use Rattle.sheet.specs.Decode.{domains, initial, goal, action, task}
use Rattle.sheet.proofs.Accepted.{accepted_well_formed}
use Rattle.plan.specs.Valid.{steps}
use Rattle.plan.proofs.PlanLaws.{steps_at, steps_plain}
use Rattle.fact_bits.proofs.BitTheorem.{wanted_told, useful_told}
use Rattle.std.specs.Ordering.{is_lt}
use Rattle.packed_state.specs.Between.Chosen.{open_before}
use Rattle.packed_state.specs.Between.Packed.{has_all, written_over, TellsState}
use Rattle.choice_rows.specs.declared.rows.Choice.{Choice}
use Rattle.choice_rows.specs.Between.Rows.{no_choice}
use Rattle.choice_rows.proofs.ChoiceLaws.{choices_long}
use Rattle.packed_state.proofs.ChosenLaws.{open_unflagged, open_rises, open_stays, NextOpen, next_open}
use Rattle.choice_rows.proofs.RowTheorem.{strike_row_tells, keep_row_tells, use_row_tells, struck_row_writes, kept_row_writes, cost_tells}
use Rattle.turns.specs.declared.chosen.Chosen.{Chosen}
use Rattle.turns.specs.Between.Told.{Chooses, Lent, LentRows, AtChoice, TurnTold}
use Rattle.turns.specs.Between.Unpacked.{bit_of}
use Rattle.turns.proofs.SoFarLaws.{chooses_more, chooses_lower}

-- what the search's laws ask of a list that is lent
module _ (w l : List ℕ) (flags : Reduction) (lent : Lent w l flags) where
  pub all_plain : ActionsPlain (domains w) (steps w l)
  all_plain = steps_plain w l lent.readable.accepted lent.readable.known

  pub starts_sized : length (initial w) ≡ length (domains w)
  unfolding task
  starts_sized = (accepted_well_formed w lent.readable.accepted).initial.complete

  steps_long : length (steps w l) ≡ length l
  steps_long = length-map l (action w)

  pub flags_fit : length flags ≡ length (steps w l)
  flags_fit = lent.fits ∙ sym steps_long

  abbrev T : Tests
  T = tests (goal w) (steps w l) flags

  abbrev Course : Visit → Type 0
  Course v = OnCourse (goal w) (initial w) (steps w l) flags v

  -- both turns at an index that may be flagged are those at the next unflagged step
  pub record ComesTo (v : Visit) (d : ℕ) : Type 0 where
    pub at : Visit
    pub choice : AtChoice l flags at d
    pub next : NextOpen flags v.index (length l) at.index
    pub course : Course at
    pub so_far : at.so_far ≡ v.so_far
    pub best : at.best ≡ v.best
    pub turned : turns T (steps w l) (drop v.index (steps w l)) v ≡ turns T (steps w l) (drop at.index (steps w l)) at

  pub comes_to : (v : Visit) (d : ℕ) → v.index ≤ length l → d ≡ open_before flags v.index → Course v → ComesTo v d
  comes_to v d within numbered course = to_next (next_open flags (length l - v.index) v.index)
    where
      to_next : (j : ℕ) × NextOpen flags v.index (v.index + (length l - v.index)) j → ComesTo v d
      to_next (j, next) =
          let end : v.index + (length l - v.index) ≡ length l = omega arith in
          let moves : MovesTo (goal w) (initial w) (steps w l) flags v j =
          course_runs (goal w) (initial w) (steps w l) flags (domains w) all_plain starts_sized lent.valid lent.flagged flags_fit j next.later
          (rw (steps_long, ← end) next.within) next.passed course in
          record {
            at = moved v j moves.state;
            choice =
                record {
                  within = rw end at next.within;
                  unflagged = λ below. next.unflagged (rw end below);
                  numbered = numbered ∙ sym (open_stays flags v.index j next.later next.passed);
                };
            next = rw end at next;
            course = moves.course;
            so_far = refl;
            best = refl;
            turned = moves.turned;
          }

-- both turns at unflagged step d, as `TurnTold` has one of them
pub record BothTold (choices : List Choice) (d : ℕ) (state : List ℕ) (so_far best after : Chosen) : Type 0 where
  pub tells : (w l : List ℕ) (flags : Reduction) (rows : LentRows w l flags choices) (v : Visit) → AtChoice l flags v d
      → OnCourse (goal w) (initial w) (steps w l) flags v → TellsState w l v.so_far v.index state → Chooses w l flags v.so_far so_far → Chooses w l flags v.best best
      → Chooses w l flags (turns (tests (goal w) (steps w l) flags) (steps w l) (drop v.index (steps w l)) v) after

-- what the rows and the choices tell at a visit of unflagged step d
module _ (w l : List ℕ) (flags : Reduction) (choices : List Choice) (rows : LentRows w l flags choices) (v : Visit) (d : ℕ) (at : AtChoice l flags v d)
    (course : OnCourse (goal w) (initial w) (steps w l) flags v) (state : List ℕ) (seen : TellsState w l v.so_far v.index state) where
  lent : Lent w l flags
  lent = rows.lent

  count_told : length choices ≡ open_before flags (length l)
  count_told = rw rows.filled (choices_long w l flags rows.behind (length l))

  -- the step is left, or none is
  step_left : d < length choices → v.index < length l
  step_left h = by_case (eqb v.index (length l)) refl
    where
      by_case : (b : Bool) → eqb v.index (length l) ≡ b → v.index < length l
      by_case true e = absurd (omega (arith, count_told, at.numbered, ap (open_before flags) (eqb-true v.index (length l) e)))
      by_case false e = omega (arith, at.within, eqb-false v.index (length l) e)

  none_left : length choices ≤ d → v.index ≡ length l
  none_left h = by_case (ltb v.index (length l)) refl
    where
      by_case : (b : Bool) → ltb v.index (length l) ≡ b → v.index ≡ length l
      by_case true e =
          let inside : v.index < length l = ltb-true v.index (length l) e in
          absurd (omega (arith, count_told, at.numbered, open_unflagged flags v.index (at.unflagged inside), open_rises flags (suc v.index) (length l) inside))
      by_case false e = omega (arith, at.within, ltb-false v.index (length l) e)

  at_end : length choices ≤ d → drop v.index (steps w l) ≡ []
  at_end h = drop_of_length-le (steps w l) {i = v.index} (rw (steps_long w l flags lent) (omega (arith, none_left h)))

  module _ (inside : v.index < length l) where
    down : get_or flags v.index false ≡ false
    down = at.unflagged inside

    inside_steps : v.index < length (steps w l)
    inside_steps = rw (steps_long w l flags lent) inside

    next_step : drop v.index (steps w l) ≡ step (steps w l) v.index ∷ drop (v.index + 1) (steps w l)
    next_step = rw add-one (drop-cons (steps w l) v.index idle inside_steps)

    -- the choice there
    abbrev choice : Choice
    choice = get_or choices d no_choice

    price_told : choice.cost ≡ cost_word w (get_or l v.index 0)
    price_told = rw (rows.filled, at.numbered) (cost_tells w l flags rows.behind lent.readable (all_plain w l flags lent) v.index inside down)

    plain_here : Plain (domains w) (action w (get_or l v.index 0))
    plain_here = rw (steps_at w l v.index inside) at (each_step (all_plain w l flags lent) v.index inside_steps)

    strike_tested : has_all choice.strike state ≡ wanted_held (goal w) (steps w l) flags v
    strike_tested =
        rw (rows.filled, at.numbered)
        (strike_row_tells w l flags rows.behind lent.readable (all_plain w l flags lent) v course inside down state seen
        ∙ wanted_told w l flags rows.behind lent.readable rows.told v inside down plain_here)

    keep_tested : has_all choice.keep state ≡ applicable v.state (step (steps w l) v.index)
    keep_tested =
        rw (rows.filled, at.numbered)
        (keep_row_tells w l flags rows.behind lent.readable (all_plain w l flags lent) v course inside down state seen)

    use_tested : has_all choice.useful state ≡ not (useful (goal w) (steps w l) v)
    use_tested =
        rw (rows.filled, at.numbered)
        (use_row_tells w l flags rows.behind lent.readable (all_plain w l flags lent) v course inside down state seen
        ∙ useful_told w l flags rows.behind lent.readable rows.told v inside down plain_here)

    -- a reduction that decides as the visit did before its index keeps the flagged steps behind it
    module _ (n : Reduction) (contains : Contains n flags) (alike : take v.index n ≡ take v.index v.so_far) (j : ℕ)
        (next : NextOpen flags (v.index + 1) (length l) j) where
      passes : NextOpen flags (suc v.index) (length l) j
      passes = rw add-one at next

      keeps_passed : (o : ℕ) → v.index < o → o < j → get_or n o false ≡ true
      keeps_passed o above below = contains o (passes.passed o above below)

      struck_written : get_or n v.index false ≡ false → TellsState w l n j (written_over choice.struck state)
      struck_written out =
          rw (rows.filled, at.numbered)
          (struck_row_writes w l flags rows.behind lent.readable (all_plain w l flags lent) v.index inside down v.so_far n j passes keeps_passed alike state seen out)

      kept_written : get_or n v.index false ≡ true → TellsState w l n j (written_over choice.kept state)
      kept_written up =
          rw (rows.filled, at.numbered)
          (kept_row_writes w l flags rows.behind lent.readable (all_plain w l flags lent) v.index inside down v.so_far n j passes keeps_passed alike state seen up)

  -- both turns from the next index on, by what the code's turns make at the next unflagged step
  goes_on : (x : Visit) (after_state : List ℕ) (so_far best after : Chosen) → x.index ≡ v.index + 1 → v.index < length l
      → OnCourse (goal w) (initial w) (steps w l) flags x
      → ((j : ℕ) → NextOpen flags (v.index + 1) (length l) j → TellsState w l x.so_far j after_state)
      → Chooses w l flags x.so_far so_far → Chooses w l flags x.best best
      → BothTold choices (d + 1) after_state so_far best after
      → Chooses w l flags (turns (tests (goal w) (steps w l) flags) (steps w l) (drop x.index (steps w l)) x) after
  goes_on x after_state so_far best after next inside on_course shown kept_told best_told both =
      let further : d + 1 ≡ open_before flags x.index =
      rw (next, add-one, at.numbered, add-one) (sym (open_unflagged flags v.index (at.unflagged inside))) in
      let comes : ComesTo w l flags lent x (d + 1) = comes_to w l flags lent x (d + 1) (rw next (omega arith)) further on_course in
      rw comes.turned
      (both.tells w l flags rows comes.at comes.choice comes.course (rw comes.so_far (shown comes.at.index (subst (λ n. NextOpen flags n (length l) comes.at.index) next comes.next)))
      (rw comes.so_far kept_told) (rw comes.best best_told))

module _ (choices : List Choice) (d : ℕ) (state : List ℕ) (k best : Chosen) where
  pub both_told : (first after : Chosen) → TurnTold choices strike d state k best first → TurnTold choices keep d state k first after
      → BothTold choices d state k best after
  both_told first after strikes_first then_Keeps =
      record {
        tells = λ w l flags rows v at course seen tells told.
            let lent : Lent w l flags = rows.lent in
            then_Keeps.tells w l flags rows (handed v _) (record { within = at.within; unflagged = at.unflagged; numbered = at.numbered })
            (course_handed (goal w) (initial w) (steps w l) flags (domains w) (all_plain w l flags lent) (starts_sized w l flags lent) lent.valid lent.flagged
            (flags_fit w l flags lent) _ course)
            seen tells (strikes_first.tells w l flags rows v at course seen tells told);
      }

  -- no step is left
  module _ (over : length choices ≤ d) where
    pub kept_to_end : TurnTold choices keep d state k best best
    kept_to_end =
        record {
          tells = λ w l flags rows v at course seen tells told.
              rw (at_end w l flags choices rows v d at course state seen over, keep_end (tests (goal w) (steps w l) flags) (steps w l) v) told;
        }

    module _ (low : Bool) (compared : low ≡ is_lt (comparison k.tally best.tally)) where
      pub not_lower_at_end : low ≡ false → TurnTold choices strike d state k best best
      not_lower_at_end e =
          record {
            tells = λ w l flags rows v at course seen tells told.
                rw (
                  at_end w l flags choices rows v d at course state seen over,
                  strike_not_lower (tests (goal w) (steps w l) flags) (steps w l) v
                      (sym (chooses_lower w l flags v.so_far v.best k best rows.lent.readable tells told) ∙ sym compared ∙ e),
                ) told;
          }

      -- the goal holds there: what it needs was asked for before
      pub lower_at_end : low ≡ true → TurnTold choices strike d state k best k
      lower_at_end e =
          record {
            tells = λ w l flags rows v at course seen tells told.
                let lent : Lent w l flags = rows.lent in
                let ends = course_ends (goal w) (initial w) (steps w l) flags (domains w) (all_plain w l flags lent) (starts_sized w l flags lent) lent.valid
                lent.flagged (flags_fit w l flags lent)
                (none_left w l flags choices rows v d at course state seen over ∙ sym (steps_long w l flags lent)) course in
                rw (
                  at_end w l flags choices rows v d at course state seen over,
                  strike_met (tests (goal w) (steps w l) flags) (steps w l) v
                      (sym (chooses_lower w l flags v.so_far v.best k best rows.lent.readable tells told) ∙ sym compared ∙ e) ends,
                ) tells;
          }

  -- step d is left
  module _ (some : d < length choices) (choice : Choice) (read : choice ≡ get_or choices d no_choice) where
    module _ (may : Bool) (tested : may ≡ has_all choice.strike state) where
      tested_row : may ≡ has_all (get_or choices d no_choice).strike state
      tested_row = rw read at tested

      pub not_struck : may ≡ false → TurnTold choices strike d state k best best
      not_struck e =
          record {
            tells = λ w l flags rows v at course seen tells told.
                let inside : v.index < length l = step_left w l flags choices rows v d at course state seen some in
                rw (
                  next_step w l flags choices rows v d at course state seen inside,
                  strike_barred (tests (goal w) (steps w l) flags) (steps w l) _ _ v
                      (sym (strike_tested w l flags choices rows v d at course state seen inside) ∙ sym tested_row ∙ e),
                ) told;
          }

      pub struck_on : (next : List ℕ) (after : Chosen) → may ≡ true → next ≡ written_over choice.struck state
          → BothTold choices (d + 1) next k best after → TurnTold choices strike d state k best after
      struck_on next after e writes both =
          record {
            tells = λ w l flags rows v at course seen tells told.
                let inside : v.index < length l = step_left w l flags choices rows v d at course state seen some in
                let may_be : wanted_held (goal w) (steps w l) flags v ≡ true =
                sym (strike_tested w l flags choices rows v d at course state seen inside) ∙ sym tested_row ∙ e in
                let lent : Lent w l flags = rows.lent in
                let on_course = course_struck (goal w) (initial w) (steps w l) flags (domains w) (all_plain w l flags lent) (starts_sized w l flags lent) lent.valid
                lent.flagged (flags_fit w l flags lent) (inside_steps w l flags choices rows v d at course state seen inside) (at.unflagged inside) may_be course in
                rw (
                  next_step w l flags choices rows v d at course state seen inside,
                  strike_goes_on (tests (goal w) (steps w l) flags) (steps w l) _ _ v (at.unflagged inside) may_be,
                )
                (goes_on w l flags choices rows v d at course state seen (struck v) next k best after refl inside on_course
                (λ j following.
                rw (writes, read)
                (struck_written w l flags choices rows v d at course state seen inside v.so_far tells.flagged refl j following
                (alike_behind v.so_far flags v.index v.index course.visited.to_come (omega arith) ∙ at.unflagged inside)))
                tells told both);
          }

    -- a keeping turn, with the step kept too
    module _ (with : Chosen) (low : Bool) (adds : with.tally ≡ one_more k.tally choice.cost) (raises : with.bits ≡ bit_or k.bits (bit_of d))
        (compared : low ≡ is_lt (comparison with.tally best.tally)) where
      module _ (w l : List ℕ) (flags : Reduction) (rows : LentRows w l flags choices) (v : Visit) (at : AtChoice l flags v d)
          (course : OnCourse (goal w) (initial w) (steps w l) flags v) (seen : TellsState w l v.so_far v.index state)
          (tells : Chooses w l flags v.so_far k) (told : Chooses w l flags v.best best) where
        here_inside : v.index < length l
        here_inside = step_left w l flags choices rows v d at course state seen some

        with_told : Chooses w l flags (set v.so_far v.index true) with
        with_told =
            chooses_more w l flags v.so_far v.index choice.cost k with rows.lent.readable rows.lent.few here_inside (at.unflagged here_inside)
            course.visited.to_come (rw read (price_told w l flags choices rows v d at course state seen here_inside)) adds (rw at.numbered at raises) tells

        bound_told : bound (steps w l) v ≡ low
        unfolding bound
        bound_told = sym (chooses_lower w l flags _ v.best with best rows.lent.readable with_told told) ∙ sym compared

        may_keep_told : {x y : Bool} → bound (steps w l) v ≡ x → useful (goal w) (steps w l) v ≡ y → (tests (goal w) (steps w l) flags).may_keep v ≡ (x && y)
        may_keep_told p q = rw (at.unflagged here_inside, p, q)

        abbrev ahead : drop v.index (steps w l) ≡ step (steps w l) v.index ∷ drop (v.index + 1) (steps w l)
        ahead = next_step w l flags choices rows v d at course state seen here_inside

      pub not_lower_kept : low ≡ false → TurnTold choices keep d state k best best
      not_lower_kept e =
          record {
            tells = λ w l flags rows v at course seen tells told.
                rw (
                  ahead w l flags rows v at course seen tells told,
                  keep_barred (tests (goal w) (steps w l) flags) (steps w l) _ _ v
                      (may_keep_told w l flags rows v at course seen tells told (bound_told w l flags rows v at course seen tells told ∙ e) refl),
                ) told;
          }

      module _ (able : Bool) (tested : able ≡ has_all choice.keep state) where
        able_tested : able ≡ has_all (get_or choices d no_choice).keep state
        able_tested = rw read at tested

        pub not_able : able ≡ false → TurnTold choices keep d state k best best
        not_able e =
            record {
              tells = λ w l flags rows v at course seen tells told.
                  rw (
                    ahead w l flags rows v at course seen tells told,
                    keep_stuck (tests (goal w) (steps w l) flags) (steps w l) _ _ v
                        (sym (keep_tested w l flags choices rows v d at course state seen (here_inside w l flags rows v at course seen tells told)) ∙ sym able_tested ∙ e),
                  ) told;
            }

        module _ (idle_there : Bool) (asked : idle_there ≡ has_all choice.useful state) where
          use_told : idle_there ≡ has_all (get_or choices d no_choice).useful state
          use_told = rw read at asked

          pub not_useful : idle_there ≡ true → TurnTold choices keep d state k best best
          not_useful e =
              record {
                tells = λ w l flags rows v at course seen tells told.
                    rw (
                      ahead w l flags rows v at course seen tells told,
                      keep_barred (tests (goal w) (steps w l) flags) (steps w l) _ _ v
                          (may_keep_told w l flags rows v at course seen tells told refl
                          (not-true _ (sym (use_tested w l flags choices rows v d at course state seen (here_inside w l flags rows v at course seen tells told)) ∙ sym use_told ∙ e))
                          ∙ and-false (bound (steps w l) v)),
                    ) told;
              }

          pub kept_on : (next : List ℕ) (after : Chosen) → low ≡ true → able ≡ true → idle_there ≡ false
              → next ≡ written_over choice.kept state → BothTold choices (d + 1) next with best after → TurnTold choices keep d state k best after
          kept_on next after is_lower can of_use writes both =
              record {
                tells = λ w l flags rows v at course seen tells told.
                    let inside : v.index < length l = here_inside w l flags rows v at course seen tells told in
                    let can_be : applicable v.state (step (steps w l) v.index) ≡ true =
                    sym (keep_tested w l flags choices rows v d at course state seen inside) ∙ sym able_tested ∙ can in
                    let is_useful : useful (goal w) (steps w l) v ≡ true =
                    not-false _ (sym (use_tested w l flags choices rows v d at course state seen inside) ∙ sym use_told ∙ of_use) in
                    let lent : Lent w l flags = rows.lent in
                    let on_course = course_done (goal w) (initial w) (steps w l) flags (domains w) (all_plain w l flags lent) (starts_sized w l flags lent) lent.valid
                    lent.flagged (flags_fit w l flags lent) (inside_steps w l flags choices rows v d at course state seen inside) can_be course in
                    rw (
                      ahead w l flags rows v at course seen tells told,
                      keep_goes_on (tests (goal w) (steps w l) flags) (steps w l) _ _ v can_be
                          (may_keep_told w l flags rows v at course seen tells told (bound_told w l flags rows v at course seen tells told ∙ is_lower) is_useful),
                    )
                    (goes_on w l flags choices rows v d at course state seen (done (step (steps w l) v.index) v) next with best after refl inside on_course
                    (λ j following.
                    rw (writes, read)
                    (kept_written w l flags choices rows v d at course state seen inside (set v.so_far v.index true)
                    (with_told w l flags rows v at course seen tells told).flagged
                    (take-set-le v.index v.so_far v.index true (omega arith)) j following
                    (get_or-set_same v.so_far v.index true false (omega (arith, tells.fits)))))
                    (with_told w l flags rows v at course seen tells told) told both);
              }
