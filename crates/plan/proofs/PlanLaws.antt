-- What the checks of a list answer, part by part; and of a list that can be read, that its steps are actions of the task and that its tally never meets its
-- bounds. Assumes nothing.
use Rattle.std.specs.Prelude.{None, Some}
use Prim.Native.Nat.{ℕ, zero, suc, ◌+◌, ◌≤◌, ◌<◌}
use native.Mathlib.Omega.{arith}
use mathlib.Core.Path.{◌≡◌, refl, sym, ◌∙◌, ap}
use mathlib.Core.Option.{none, some}
use mathlib.Core.List.Memᴰ
use mathlib.Core.List.{List, [], ◌∷◌, ◌++◌, map, Memᴰ}
use lib.ListN.{length, get_or, length-map, drop}
use borrow.Author.Tests.{ltb-false, leb-false, le-ltb, lt-leb}
use Rattle.refusal.specs.declared.Refusal.TheVariants.{NotAPlan}
use Rattle.refusal.specs.Refusal.{Told, told_refusal}
use Rattle.refusal.specs.Check.{Check, answer}
use Rattle.refusal.proofs.PlaceLaws.{first_of_none, when_nowhere, first_of_nowhere}
use Rattle.refusal.proofs.CheckLaws.{none_fires, answer_fires, answer_passes, answer_nothing, answer_first, answer_second, first_none}
use Rattle.sas.specs.Task.{Action, idle}
use Rattle.sas.specs.Plan.{cost}
use Rattle.sas.specs.Between.WellFormed.{Rising}
use Rattle.sas.proofs.WellFormedLaws.{ActionsFormed, ActionsPlain, each_behind}
use Rattle.tally.specs.Tally.{bounds, nothing, after}
use Rattle.tally.proofs.TallyLaws.{total, plain_tally}
use Rattle.sheet.specs.Limits.{limits}
use Rattle.sheet.specs.Layout.{actions, cost_word}
use Rattle.sheet.specs.Decode.{domains, initial, goal, action, task}
use Rattle.sheet.specs.Causes.{sheet_checks, Accepted}
use Rattle.sheet.proofs.Accepted.{action_known, accepted_well_formed, accepted_plain, cost_limit}
use Rattle.plan.specs.Valid.{steps}
use Rattle.plan.specs.Between.Fault.{fault}
use Rattle.plan.specs.Checked.{unknown_place, list_checks, read_checks, valid_checks, lodged_checks}
use Rattle.plan.proofs.FaultLaws.{steps_drop}
use Rattle.plan.specs.Readable.{EntriesKnown, ReadableWithin}

-- the sum of the cost words is the cost of the actions
total_cost : (w l : List ℕ) → total (map (cost_word w) l) ≡ cost (steps w l)
unfolding total cost action
total_cost w [] = refl
total_cost w (a ∷ l) = ap (λ c. cost_word w a + c) (total_cost w l)

-- the entries by their indices
at_known : (w l : List ℕ) → ((i : ℕ) → i < length l → get_or l i 0 < actions w) → EntriesKnown w l
at_known w [] at a x'' = elim x'' [ ]
at_known w (b ∷ l) at a (Memᴰ.head e) = rw e (at 0 (omega arith))
at_known w (b ∷ l) at a (Memᴰ.tail m) = at_known w l (λ i h. at (suc i) (omega arith)) a m

known_at : (w l : List ℕ) → EntriesKnown w l → (i : ℕ) → i < length l → get_or l i 0 < actions w
known_at w [] known i h = absurd (omega arith)
known_at w (b ∷ l) known zero h = known b (Memᴰ.head refl)
known_at w (b ∷ l) known (suc i) h = known_at w l (λ a m. known a (Memᴰ.tail m)) i (omega arith)

-- no unknown action is found in a list just where each of its entries is known
pub nowhere_known : (w l : List ℕ) → unknown_place w l ≡ None → EntriesKnown w l
unfolding unknown_place
nowhere_known w l h = at_known w l (λ i below. leb-false _ _ (when_nowhere _ (i + 1) (first_of_nowhere _ 0 (length l) h i (omega arith) below)))

pub known_nowhere : (w l : List ℕ) → EntriesKnown w l → unknown_place w l ≡ None
unfolding unknown_place
known_nowhere w l known = first_of_none _ (length l) (λ i below. rw (lt-leb (actions w) (get_or l i 0) (known_at w l known i below)))

module _ (w : List ℕ) (accepted : Accepted w) where
  pub goal_rising : Rising (domains w) 0 (goal w)
  unfolding task
  goal_rising = (accepted_well_formed w accepted).goal

-- the step at an index is the action that the entry there names
pub steps_at : (w l : List ℕ) (i : ℕ) → i < length l → get_or (steps w l) i idle ≡ action w (get_or l i 0)
steps_at w [] i h = absurd (omega arith)
steps_at w (a ∷ l) zero h = refl
steps_at w (a ∷ l) (suc i) h = steps_at w l i (omega arith)

module _ (w l : List ℕ) (accepted : Accepted w) (known : EntriesKnown w l) where
  -- each step is one of the task's actions
  pub steps_known : (a : Action) → Memᴰ a (steps w l) → Memᴰ a (task w).actions
  steps_known a m = let (k, in_List, same) = Memᴰ.of_map (action w) l m in rw (← same) (action_known w k (known k in_List))

  pub steps_formed : ActionsFormed (domains w) (steps w l)
  unfolding task
  steps_formed a m = (accepted_well_formed w accepted).actions a (steps_known a m)

  -- and so is each step from index k on
  pub rest_formed : (k : ℕ) → ActionsFormed (domains w) (steps w (drop k l))
  rest_formed k = rw (← steps_drop w l k) at (each_behind steps_formed k)

  cost_words_limit : (c : ℕ) → Memᴰ c (map (cost_word w) l) → c ≤ limits.cost
  unfolding action
  cost_words_limit c m = let (k, in_List, same) = Memᴰ.of_map (cost_word w) l m in rw (← same) (cost_limit w accepted (action_known w k (known k in_List)))

  -- each is plain
  pub steps_plain : ActionsPlain (domains w) (steps w l)
  steps_plain a m = accepted_plain w accepted (steps_known a m)

  -- the tally of a list that is not too long for one is its cost and its number of steps
  pub walked_tally : length l ≤ bounds.steps → after nothing (map (cost_word w) l) ≡ record { cost = cost (steps w l); steps = length l }
  walked_tally few = plain_tally limits.cost (map (cost_word w) l) cost_words_limit (omega arith) (rw length-map few) ∙ rw (total_cost w l, length-map)

-- a list that passes its own checks has no more steps than the limit, and each of its entries is known
pub listed_entries : (limit : ℕ) (w l : List ℕ) → answer (list_checks limit w l) ≡ none → (length l ≤ limit) × EntriesKnown w l
unfolding list_checks
listed_entries limit w l h =
    let (short, rest) = none_fires _ _ h in
    let (found, done) = none_fires _ _ rest in
    (ltb-false _ _ (when_nowhere _ limit short), nowhere_known w l found)

entries_listed : (limit : ℕ) (w l : List ℕ) → length l ≤ limit → EntriesKnown w l → answer (list_checks limit w l) ≡ none
unfolding list_checks
entries_listed limit w l few known = answer_passes _ _ (rw (le-ltb limit (length l) few)) ∙ answer_passes _ _ (known_nowhere w l known) ∙ answer_nothing

module _ (limit : ℕ) (w l : List ℕ) where
  -- the sheet's checks answer first, then those of the list
  pub sheet_answers : {t : Told} → answer (sheet_checks w) ≡ some t → answer (read_checks limit w l) ≡ some t
  unfolding read_checks
  sheet_answers h = answer_first (sheet_checks w) (list_checks limit w l) h

  pub list_answers : Accepted w → answer (read_checks limit w l) ≡ answer (list_checks limit w l)
  unfolding read_checks
  list_answers accepted = answer_second (sheet_checks w) (list_checks limit w l) accepted

  -- none of both fires just where the list can be read
  pub read_readable : answer (read_checks limit w l) ≡ none → ReadableWithin limit w l
  unfolding read_checks
  read_readable h =
      let accepted : Accepted w = first_none (sheet_checks w) (list_checks limit w l) _ h refl in
      let (few, known) = listed_entries limit w l (sym (list_answers accepted) ∙ h) in
      record { accepted = accepted; few = few; known = known }

  pub readable_read : ReadableWithin limit w l → answer (read_checks limit w l) ≡ none
  readable_read readable = list_answers readable.accepted ∙ entries_listed limit w l readable.few readable.known

module _ (limit : ℕ) (besides : List Check) (w l : List ℕ) where
  -- what is read is looked at first, then what is asked besides
  pub read_answers : {t : Told} → answer (read_checks limit w l) ≡ some t → answer (lodged_checks limit besides w l) ≡ some t
  unfolding lodged_checks
  read_answers h = answer_first (read_checks limit w l) (besides ++ valid_checks w l) h

  -- a list that passes can be read
  pub passed_readable : answer (lodged_checks limit besides w l) ≡ none → ReadableWithin limit w l
  unfolding lodged_checks
  passed_readable h = read_readable limit w l (first_none (read_checks limit w l) (besides ++ valid_checks w l) _ h refl)

  module _ (readable : ReadableWithin limit w l) where
    pub rest_answers : answer (lodged_checks limit besides w l) ≡ answer (besides ++ valid_checks w l)
    unfolding lodged_checks
    rest_answers = answer_second (read_checks limit w l) (besides ++ valid_checks w l) (readable_read limit w l readable)

    pub besides_answers : {t : Told} → answer besides ≡ some t → answer (lodged_checks limit besides w l) ≡ some t
    besides_answers h = rest_answers ∙ answer_first besides (valid_checks w l) h

    -- where both pass, it is left to the fault
    module _ (passed : answer besides ≡ none) where
      only_valid : answer (lodged_checks limit besides w l) ≡ answer (valid_checks w l)
      only_valid = rest_answers ∙ answer_second besides (valid_checks w l) passed

      pub fault_answers : (k : ℕ) → fault (goal w) (initial w) 1 (steps w l) ≡ Some k → answer (lodged_checks limit besides w l) ≡ some (told_refusal (NotAPlan k))
      unfolding valid_checks
      fault_answers k e = only_valid ∙ answer_fires _ _ k e

      pub passes_faultless : answer (lodged_checks limit besides w l) ≡ none → fault (goal w) (initial w) 1 (steps w l) ≡ None
      unfolding valid_checks
      passes_faultless h = (none_fires _ _ (sym only_valid ∙ h)).0

      pub faultless_passes : fault (goal w) (initial w) 1 (steps w l) ≡ None → answer (lodged_checks limit besides w l) ≡ none
      unfolding valid_checks
      faultless_passes e = only_valid ∙ answer_passes _ _ e ∙ answer_nothing

-- a list that passes the checks of a service passes what it asks besides, and the check of a list
module _ (limit : ℕ) (besides : List Check) (w l : List ℕ) (passed : answer (lodged_checks limit besides w l) ≡ none) where
  pub besides_pass : answer besides ≡ none
  besides_pass = first_none besides (valid_checks w l) _ (sym (rest_answers limit besides w l (passed_readable limit besides w l passed)) ∙ passed) refl

  pub plan_passes : answer (lodged_checks limit [] w l) ≡ none
  plan_passes =
      let readable : ReadableWithin limit w l = passed_readable limit besides w l passed in
      faultless_passes limit [] w l readable answer_nothing (passes_faultless limit besides w l readable besides_pass passed)
