-- All parts of a sheet: the operators by the turns of the loop that writes their parts, in which what is left to be laid out makes what all of them make; and
-- the three parts before them. By the laws of words stored over others. Assumes nothing.
use Prim.Native.Nat.{ℕ, zero, suc, ◌+◌, ◌-◌, ◌*◌, ◌≤◌, ◌<◌}
use native.Mathlib.Nat.{sub-zero, add-zero}
use native.Mathlib.Omega.{arith}
use mathlib.Core.Path.{◌≡◌, refl, sym, ◌∙◌, ap}
use mathlib.Core.Bool.{Bool, true, false, ◌&&◌, false≢true}
use mathlib.Core.List.{List, [], ◌∷◌, map, flatten}
use lib.ListN.{length, length-map}
use lib.Seq.{sets}
use Rattle.std.specs.Prelude.{Option, Some, None}
use Rattle.refusal.proofs.PlaceLaws.{one_fewer, none_left}
use Rattle.sas.specs.Task.{Action}
use Rattle.sheet.specs.Layout.{header}
use Rattle.sheet.specs.Decode.{table}
use Rattle.sheet.specs.Layout.{first_edition}
use Rattle.sheet.specs.Between.Encode.{fact_words, action_part, parts}
use Rattle.sheet.proofs.TableLaws.{table_length}
use Rattle.meaning.specs.Between.Sections.{number_at, variables, range_of, ranges, state, goal, operators_at, operator_end, action_at, actions_from, meaning}
use Rattle.meaning.specs.Between.Order.{in_order, ordered_action, ordered}
use Rattle.meaning.specs.Between.Writable.{group_fits, action_fits, actions_fit}
use Rattle.sheet_writer.specs.Between.Laid.{first_word, part_most}
use Rattle.task_sheet.specs.Between.Parts.{ends_if, Writes, WritesGroup, action_parts, facts_fit, Lays}
use Rattle.task_sheet.proofs.PartLaws.{ends_some, ends_none}
use Rattle.sheet_writer.proofs.LayLaws.{Laying, laying_all, laying_part, laying_none}

lays_unfit : {fit : Bool} {k : ℕ} {ps : List (List ℕ)} {before after : List ℕ} {at : ℕ} → fit ≡ false → Lays fit k ps before after at None
lays_unfit none = record { end = rw none; written = λ fits. absurd (false≢true (sym none ∙ fits)) }

abbrev part_of : Action → List ℕ
part_of a = action_part first_edition (ordered_action a)

pub actions_length : (x : List ℕ) (i n : ℕ) → length (actions_from x i n) ≡ n
unfolding actions_from
actions_length x i zero = refl
actions_length x i (suc n) = ap suc (actions_length x (operator_end x i) n)

pub parts_length : (p : List Action) → length (action_parts p) ≡ length p
parts_length p = length-map (map ordered_action p) (action_part first_edition) ∙ length-map p ordered_action

-- the operators that are left of n, from number i on, whose parts are to be laid out from word `to` on
module _ (x : List ℕ) (from n : ℕ) (before : List ℕ) (at : ℕ) where
  abbrev all_parts : List (List ℕ)
  all_parts = action_parts (actions_from x from n)

  pub record LayingActions (sheet : List ℕ) (i to a : ℕ) : Type 0 where
    fits : actions_fit (ranges x) (actions_from x i (n - a)) ≡ actions_fit (ranges x) (actions_from x from n)
    laying : Laying 3 at all_parts before (action_parts (actions_from x i (n - a))) (3 + a) to sheet

  abbrev LaysActions : List ℕ → Option ℕ → Type 0
  LaysActions after r = Lays (actions_fit (ranges x) (actions_from x from n)) 3 all_parts before after at r

  pub actions_start : LayingActions before from at 0
  actions_start = record { fits = rw sub-zero; laying = rw (sub-zero n, add-zero 3) (laying_all 3 at all_parts before) }

  pub actions_over : (sheet : List ℕ) (i to a : ℕ) → n ≤ a → LayingActions sheet i to a → LaysActions sheet (Some to)
  unfolding actions_from actions_fit
  actions_over sheet i to a over left =
      let none : n - a ≡ 0 = none_left a n over in
      let (ends, written) = laying_none 3 at all_parts before (3 + a) to sheet (rw none at left.laying) in
      let fits : true ≡ actions_fit (ranges x) (actions_from x from n) = rw none at left.fits in
      record { end = rw (← fits, ends); written = λ _. written }

  module _ {sheet : List ℕ} {i to a : ℕ} (more : a < n) (left : LayingActions sheet i to a) where
    abbrev later : List Action
    later = actions_from x (operator_end x i) (n - (a + 1))

    split : actions_from x i (n - a) ≡ action_at x i ∷ later
    unfolding actions_from
    split = rw (one_fewer a n more)

    first_fits : action_fits (ranges x) (action_at x i) && actions_fit (ranges x) later ≡ actions_fit (ranges x) (actions_from x from n)
    unfolding actions_fit
    first_fits = rw split at left.fits

    abbrev WritesHere : List ℕ → Option ℕ → Type 0
    WritesHere middle r = Writes (action_fits (ranges x) (action_at x i)) (part_of (action_at x i)) part_most sheet middle to r

    pub actions_unfit : {middle : List ℕ} → WritesHere middle None → LaysActions middle None
    actions_unfit writes = lays_unfit (sym (rw (ends_none _ _ writes.end) at first_fits))

    pub actions_on : {middle : List ℕ} {end : ℕ} → WritesHere middle (Some end) → first_word n ≤ to → (after : List ℕ)
        → after ≡ sets middle (header + 2 * (3 + a)) (to ∷ (end - to) ∷ []) → (next : ℕ) → next ≡ operator_end x i → LayingActions after next end (a + 1)
    actions_on {middle} {end} writes past after paired next stands =
        let part : List ℕ = part_of (action_at x i) in
        let fits : action_fits (ranges x) (action_at x i) ≡ true = (ends_some writes.end).0 in
        let ends : end ≡ to + length part = (ends_some writes.end).1 in
        let rest : List (List ℕ) = action_parts later in
        let many : length rest ≡ n - (a + 1) = parts_length later ∙ actions_length x (operator_end x i) (n - (a + 1)) in
        let pair : 3 + (a + 1) ≡ 3 + a + 1 = omega arith in
        let stored : after ≡ sets (sets sheet to part) (header + 2 * (3 + a)) (to ∷ (end - to) ∷ []) = rw (← writes.written fits) paired in
        let here : Laying 3 at all_parts before (part ∷ rest) (3 + a) to sheet = rw split at left.laying in
        record {
          fits = rw stands (rw fits at first_fits);
          laying = rw (stands, pair) (laying_part 3 at all_parts before part rest (3 + a) to end sheet after here ends (omega arith) stored);
        }

-- a goal that does not fit
pub goal_unfit : (x : List ℕ) {started middle before : List ℕ} {at to : ℕ} → WritesGroup (ranges x) (goal x) started middle at None
    → Lays (facts_fit (meaning x)) 0 (parts first_edition (ordered (meaning x))) before middle to None
unfolding meaning
goal_unfit x writes = lays_unfit (rw (ends_none _ _ writes.end))

-- the goal written behind the ranges and the starting values
module _ (x before : List ℕ) (v n domains initial goal_word : ℕ) (variable : v ≡ variables x) (number : n ≡ number_at x (operators_at x))
    (first : domains ≡ first_word n) (second : initial ≡ domains + v) (third : goal_word ≡ initial + v)
    {filled ranged : List ℕ} (ranges_in : filled ≡ sets before domains (table (range_of x) 0 v))
    (ranges_pair : ranged ≡ sets filled (header + 2 * 0) (domains ∷ (initial - domains) ∷ []))
    {refilled started : List ℕ} (start_in : refilled ≡ sets ranged initial (table (λ k. number_at x (2 + v + k)) 0 v))
    (start_pair : started ≡ sets refilled (header + 2 * 1) (initial ∷ (goal_word - initial) ∷ []))
    (middle : List ℕ) where
  abbrev the_actions : List Action
  the_actions = (meaning x).actions

  abbrev LaysParts : List ℕ → Option ℕ → Type 0
  LaysParts after r = Lays (facts_fit (meaning x)) 0 (parts first_edition (ordered (meaning x))) before after (first_word (number_at x (operators_at x))) r

  abbrev WritesGoal : Option ℕ → Type 0
  WritesGoal g = WritesGroup (ranges x) (goal x) started middle goal_word g

  pub parts_laid : (g : ℕ) → WritesGoal (Some g) → (paired after : List ℕ) → paired ≡ sets middle (header + 2 * 2) (goal_word ∷ (g - goal_word) ∷ [])
      → (r : Option ℕ) → Lays (actions_fit (ranges x) the_actions) 3 (action_parts the_actions) paired after g r → LaysParts after r
  unfolding meaning ordered parts ranges state flatten
  parts_laid g writes paired after goal_pair r lays =
      let range_part : List ℕ = table (range_of x) 0 v in
      let start : List ℕ = table (λ k. number_at x (2 + v + k)) 0 v in
      let goal_part : List ℕ = fact_words (in_order (goal x)) in
      let fits : group_fits (ranges x) (goal x) ≡ true = (ends_some writes.end).0 in
      let ends : g ≡ goal_word + length goal_part = (ends_some writes.end).1 in
      let rest : List (List ℕ) = action_parts the_actions in
      let long : length range_part ≡ v = table_length (range_of x) 0 v in
      let long' : length start ≡ v = table_length (λ k. number_at x (2 + v + k)) 0 v in
      let count : length rest ≡ n = parts_length the_actions ∙ actions_length x (operators_at x + 1) (number_at x (operators_at x)) ∙ sym number in
      let whole : List (List ℕ) = range_part ∷ start ∷ goal_part ∷ rest in
      let one : Laying 0 (first_word n) whole before (start ∷ goal_part ∷ rest) 1 initial ranged =
      laying_part 0 (first_word n) whole before range_part (start ∷ goal_part ∷ rest) 0 (first_word n) initial before ranged
      (laying_all 0 (first_word n) whole before) (omega arith) (omega arith) (ranges_pair ∙ rw (ranges_in, first)) in
      let two : Laying 0 (first_word n) whole before (goal_part ∷ rest) 2 goal_word started =
      laying_part 0 (first_word n) whole before start (goal_part ∷ rest) 1 initial goal_word ranged started one (omega arith) (omega arith)
      (start_pair ∙ rw start_in) in
      let three : Laying 0 (first_word n) whole before rest 3 g paired =
      laying_part 0 (first_word n) whole before goal_part rest 2 goal_word g started paired two ends (omega arith) (goal_pair ∙ rw (writes.written fits)) in
      let all : Lays (actions_fit (ranges x) the_actions) 0 whole before after (first_word n) r =
      record { end = lays.end ∙ ap (ends_if (actions_fit (ranges x) the_actions)) three.end; written = λ done. lays.written done ∙ three.written } in
      rw fits (rw (variable, number) at all)
