-- In an accepted task every part lies inside the words, so that no word past the end is ever read: each offset is the one due, and no part ends past
-- the last word. By the checks of the length, the counts and the pairs, by induction on the pairs. Assumes nothing.
use Rattle.std.specs.Prelude.{None}
use Prim.Native.Nat.{ℕ, zero, suc, ◌+◌, ◌-◌, ◌≤◌, ◌<◌}
use native.Mathlib.Omega.{arith}
use native.Mathlib.Numerals.{add-one}
use mathlib.Core.Path.{◌≡◌, refl, sym, ◌∙◌}
use mathlib.Core.Bool.{Bool, false, not, ◌&&◌, ◌||◌}
use mathlib.Core.List.{List}
use lib.ListN.{length}
use lib.Dec.{ltb, leb, eqb}
use borrow.Author.Tests.{ltb-false, eqb-true, not-false, lt-ltb, le-leb, eq-eqb, ne_eqb}
use Rattle.refusal.specs.Place.{when, first}
use Rattle.sheet.specs.Limits.{limits}
use Rattle.sheet.specs.Layout.{word, variables, actions, stated_length, pairs, pairs_end, offset, size, part_end, effect_start, effect_end}
use Rattle.sheet.specs.Causes.{bad_length, bad_counts, due, past_part, wrong_size, bad_pair, pair_place, Accepted}
use Rattle.refusal.proofs.PlaceLaws.{or_else_nowhere, first_nowhere}
use Rattle.sheet.proofs.CauseLaws.{Clear, accepted_clear, neither, none_of_three, not_both}

-- the words are as many as stated, and they and the counts are within the limits
pub record Measured (w : List ℕ) : Type 0 where
  pub header : 4 ≤ length w
  pub words : length w ≤ limits.words
  pub stated : stated_length w ≡ length w
  pub some_variable : 1 ≤ variables w
  pub variables : variables w ≤ limits.variables
  pub actions : actions w ≤ limits.actions

pub accepted_measured : (w : List ℕ) → Accepted w → Measured w
unfolding bad_length bad_counts
accepted_measured w accepted =
    let clear : Clear w = accepted_clear w accepted in
    let (short, long, stated) = none_of_three (ltb (length w) 4) (ltb limits.words (length w)) (not (eqb (stated_length w) (length w))) clear.length in
    let (few, many, actions) = none_of_three (ltb (variables w) 1) (ltb limits.variables (variables w)) (ltb limits.actions (actions w)) clear.counts in
    record {
      header = ltb-false _ _ short;
      words = ltb-false _ _ long;
      stated = eqb-true _ _ (not-false _ stated);
      some_variable = ltb-false _ _ few;
      variables = ltb-false _ _ many;
      actions = ltb-false _ _ actions;
    }

-- the offset due
due_first : (w : List ℕ) → due w 0 ≡ pairs_end w
unfolding due
due_first w = refl

due_later : (w : List ℕ) (k : ℕ) → due w (k + 1) ≡ part_end w k
unfolding due
due_later w k = let before : k + 1 - 1 ≡ k = omega arith in rw (ne_eqb (k + 1) 0 (λ e. omega arith), due, before)

-- pair k has the offset due, and its part ends where the words end or before, there if it is the last, and is as long as its kind may be:
-- a word for each variable, or for an action a cost, a number of precondition facts, and that many facts at least, and then effects none of which runs past it
record GoodPair (w : List ℕ) (k : ℕ) : Type 0 where
  in_place : offset w k ≡ due w k
  inside : part_end w k ≤ stated_length w
  last : k + 1 ≡ pairs w → stated_length w ≤ part_end w k
  variables_size : k < 2 → size w k ≡ variables w
  action_size : 3 ≤ k → word w (offset w k + 1) + 2 ≤ size w k
  whole_effects : 3 ≤ k → past_part w (part_end w k) (offset w k + 2 + word w (offset w k + 1)) ≡ false

good_pair : (w : List ℕ) (k : ℕ) → bad_pair w k ≡ false → GoodPair w k
unfolding bad_pair wrong_size
good_pair w k h =
    let long : Bool = ltb (stated_length w) (part_end w k) in
    let is_last : Bool = eqb (k + 1) (pairs w) in
    let short : Bool = ltb (part_end w k) (stated_length w) in
    let of_variables : Bool = eqb (size w k) (variables w) in
    let no_header : Bool = ltb (size w k) 2 in
    let more_facts : Bool = ltb (size w k - 2) (word w (offset w k + 1)) in
    let (placed, ends, rest) = none_of_three (not (eqb (offset w k) (due w k))) long (is_last && short || wrong_size w k) h in
    let (unfinished, sizes) = neither (is_last && short) (wrong_size w k) rest in
    let past : Bool = past_part w (part_end w k) (offset w k + 2 + word w (offset w k + 1)) in
    let (small, large) = neither (ltb k 2 && not of_variables) (leb 3 k && (no_header || (more_facts || past))) sizes in
    let action : 3 ≤ k → (no_header ≡ false) × (more_facts ≡ false) × (past ≡ false) =
    λ e. none_of_three no_header more_facts past (not_both (leb 3 k) (no_header || (more_facts || past)) large (le-leb _ _ e)) in
    record {
      in_place = eqb-true _ _ (not-false _ placed);
      inside = ltb-false _ _ ends;
      last = λ e. ltb-false _ _ (not_both is_last short unfinished (eq-eqb _ _ e));
      variables_size = λ e. eqb-true _ _ (not-false _ (not_both (ltb k 2) (not of_variables) small (lt-ltb _ _ e)));
      action_size = λ e. let (header, facts, none_past) = action e in omega (arith, ltb-false);
      whole_effects = λ e. (action e).2;
    }

module _ (w : List ℕ) (accepted : Accepted w) where
  measured : Measured w
  measured = accepted_measured w accepted

  pair : (k : ℕ) → k < pairs w → GoodPair w k
  unfolding pair_place
  pair k h = good_pair w k (first_nowhere (bad_pair w) 0 (pairs w) clear k (omega arith) h)
    where
      clear : first (bad_pair w) 0 (pairs w) ≡ None
      clear = (or_else_nowhere (when (ltb (stated_length w) (pairs_end w)) 0) (first (bad_pair w) 0 (pairs w)) (accepted_clear w accepted).pairs).1

  -- the first part begins where the pairs end
  pub first_part : offset w 0 ≡ pairs_end w
  first_part = (pair 0 (omega arith)).in_place ∙ due_first w

  -- a part ends where the next begins
  pub next_part : (k : ℕ) → k + 1 < pairs w → part_end w k ≡ offset w (k + 1)
  next_part k h = sym ((pair (k + 1) h).in_place ∙ due_later w k)

  -- each begins where the pairs end, or later
  pub part_after_pairs : (k : ℕ) → k < pairs w → pairs_end w ≤ offset w k
  part_after_pairs zero h = omega (arith, first_part)
  part_after_pairs (suc k) h =
      let here : pairs_end w ≤ offset w (k + 1) = omega (arith, next_part k (omega arith), part_after_pairs k (omega arith)) in
      rw (add-one k) at here

  -- each ends where the words end, or before
  pub part_inside : (k : ℕ) → k < pairs w → part_end w k ≤ length w
  part_inside k h = omega (arith, (pair k h).inside, measured.stated)

  -- and so do the pairs
  pub pairs_inside : pairs_end w ≤ length w
  pairs_inside = omega (arith, part_after_pairs 0 (omega arith), part_inside 0 (omega arith))

  -- the last part ends where the words end
  pub last_part : part_end w (2 + actions w) ≡ length w
  last_part =
      let here : 2 + actions w < pairs w = omega arith in
      omega (arith, part_inside (2 + actions w) here, (pair (2 + actions w) here).last (omega arith), measured.stated)

  pub domains_size : size w 0 ≡ variables w
  domains_size = (pair 0 (omega arith)).variables_size (omega arith)

  pub initial_size : size w 1 ≡ variables w
  initial_size = (pair 1 (omega arith)).variables_size (omega arith)

  -- an action's precondition and effect lie inside its part
  pub effect_inside : (a : ℕ) → a < actions w → (effect_start w a ≤ effect_end w a) × (effect_end w a ≤ length w)
  effect_inside a h =
      let here : 3 + a < pairs w = omega arith in
      omega (arith, part_inside (3 + a) here, (pair (3 + a) here).action_size (omega arith))

  -- and none of its effects runs past it
  pub effects_whole : (a : ℕ) → a < actions w → past_part w (effect_end w a) (effect_start w a) ≡ false
  effects_whole a h = (pair (3 + a) (omega arith)).whole_effects (omega arith)
