-- The sheet as a whole, by each way to a return of the function that builds it: a test of the task that fails, or all of them passed and the parts laid out
-- behind the first four words. Assumes nothing.
use Prim.Native.Nat.{ℕ, ◌+◌, ◌≤◌, ◌<◌}
use mathlib.Core.Path.{◌≡◌, refl, sym, ◌∙◌, subst}
use mathlib.Core.Bool.{Bool, true, false, cond, ◌&&◌, false≢true, and-eq-true_iff}
use mathlib.Core.List.{List, [], ◌∷◌}
use lib.ListN.{length, length-map}
use lib.Seq.{sets}
use lib.Dec.{leb}
use Rattle.std.specs.Prelude.{Option, Some, None}
use borrow.Author.Tests.{lt-leb, le-leb, leb-true, leb-false}
use Rattle.std.proofs.lemmas.Option.{cond_some, none-some}
use Rattle.sas.specs.Task.{Task}
use Rattle.sheet.specs.Limits.{limits}
use Rattle.sheet.specs.Layout.{first_edition}
use Rattle.sheet.specs.Between.Encode.{parts, encode}
use Rattle.meaning.specs.Between.Sections.{number_at, variables, ranges, state, operators_at, meaning}
use Rattle.meaning.specs.Between.Order.{ordered_action, ordered}
use Rattle.meaning.specs.Between.Small.{says_variables}
use Rattle.meaning.specs.Between.Writable.{variables_fit, group_fits, actions_fit, writable}
use Rattle.sheet_writer.specs.Between.Laid.{first_word, laid}
use Rattle.task_sheet.specs.Between.Parts.{facts_fit, Lays}
use Rattle.task_sheet.specs.Between.Built.{sheet_words, Builds}
use Rattle.meaning.proofs.GatherLaws.{and_whole, ranges_length}
use Rattle.task_sheet.proofs.PartLaws.{and_none, ends_some, ends_none}
use Rattle.sheet_writer.proofs.SheetLaws.{words_end, sheet_written}
use Rattle.task_sheet.proofs.PartsLaws.{actions_length}

-- nothing is said of the words of a task that no sheet can say
pub builds_unfit : {x before after : List ℕ} → writable (meaning x) ≡ false → Builds x before after None
builds_unfit none = record { words = rw none; written = λ fits room. absurd (false≢true (sym none ∙ fits)) }

-- the last two of three tests may be taken together
both_first : (a b c : Bool) → a && b ≡ false → a && (b && c) ≡ false
both_first true b c e = rw e
both_first false b c e = refl

-- the tests of a task
module _ (T : Task) where
  abbrev some : Bool
  some = leb 1 (length T.domains)

  abbrev few : Bool
  few = leb (length T.domains) limits.variables

  abbrev short : Bool
  short = leb (length T.actions) limits.actions

  abbrev ranged : Bool
  ranged = variables_fit T.domains T.initial

  abbrev aimed : Bool
  aimed = group_fits T.domains T.goal

  abbrev done : Bool
  done = actions_fit T.domains T.actions

  abbrev sized : Bool
  sized = leb (length (encode first_edition (ordered T))) limits.words

  behind_three : ranged && (aimed && (done && sized)) ≡ false → writable T ≡ false
  unfolding writable
  behind_three e =
      and_none some (few && (short && (ranged && (aimed && (done && sized)))))
      (and_none few (short && (ranged && (aimed && (done && sized)))) (and_none short (ranged && (aimed && (done && sized))) e))

  behind_four : aimed && (done && sized) ≡ false → writable T ≡ false
  behind_four e = behind_three (and_none ranged (aimed && (done && sized)) e)

-- each test that fails
module _ (x : List ℕ) where
  many : length (meaning x).actions ≡ number_at x (operators_at x)
  unfolding meaning
  many = actions_length x (operators_at x + 1) (number_at x (operators_at x))

  sized_ranges : length (meaning x).domains ≡ variables x
  unfolding meaning
  sized_ranges = ranges_length x

  pub no_variables : variables x < 1 → writable (meaning x) ≡ false
  unfolding writable
  no_variables none = rw (sized_ranges, lt-leb 1 (variables x) none)

  many_variables : limits.variables < variables x → writable (meaning x) ≡ false
  unfolding writable
  many_variables more =
      let over : few (meaning x) ≡ false = rw sized_ranges (lt-leb (variables x) limits.variables more) in
      rw over (and_none (some (meaning x)) false refl)

  pub many_actions : limits.actions < number_at x (operators_at x) → writable (meaning x) ≡ false
  unfolding writable
  many_actions more =
      let over : short (meaning x) ≡ false = rw many (lt-leb (number_at x (operators_at x)) limits.actions more) in
      rw over (and_none (some (meaning x)) (few (meaning x) && false) (and_none (few (meaning x)) false refl))

  pub variables_unfit : says_variables x ≡ false → writable (meaning x) ≡ false
  unfolding meaning
  variables_unfit unfit = by_case (leb (variables x) limits.variables) refl
    where
      by_case : (b : Bool) → leb (variables x) limits.variables ≡ b → writable (meaning x) ≡ false
      by_case true e = behind_three (meaning x) (rw (rw e at unfit))
      by_case false e = many_variables (leb-false _ _ e)

  pub facts_unfit : facts_fit (meaning x) ≡ false → writable (meaning x) ≡ false
  facts_unfit unfit = behind_four (meaning x) (both_first (aimed (meaning x)) (done (meaning x)) (sized (meaning x)) unfit)

  pub words_unfit : limits.words < length (encode first_edition (ordered (meaning x))) → writable (meaning x) ≡ false
  words_unfit more =
      let long : sized (meaning x) ≡ false = lt-leb (length (encode first_edition (ordered (meaning x)))) limits.words more in
      behind_four (meaning x) (and_none (aimed (meaning x)) (done (meaning x) && sized (meaning x)) (and_none (done (meaning x)) (sized (meaning x)) long))

  ranged_same : ranged (meaning x) ≡ variables_fit (ranges x) (state x)
  unfolding meaning
  ranged_same = refl

  -- all tests passed
  all_pass : 1 ≤ variables x → variables x ≤ limits.variables → number_at x (operators_at x) ≤ limits.actions
      → variables_fit (ranges x) (state x) ≡ true → facts_fit (meaning x) ≡ true → length (encode first_edition (ordered (meaning x))) ≤ limits.words
      → writable (meaning x) ≡ true
  unfolding writable
  all_pass one low brief fits facts long =
      let first : some (meaning x) ≡ true = rw sized_ranges (le-leb 1 (variables x) one) in
      let second : few (meaning x) ≡ true = rw sized_ranges (le-leb (variables x) limits.variables low) in
      let third : short (meaning x) ≡ true = rw many (le-leb (number_at x (operators_at x)) limits.actions brief) in
      let fourth : ranged (meaning x) ≡ true = ranged_same ∙ fits in
      let last : sized (meaning x) ≡ true = le-leb (length (encode first_edition (ordered (meaning x)))) limits.words long in
      rw (first, second, third, fourth, last, and_whole (done (meaning x))) facts

  -- how many variables and actions the task in order has
  domains_counted : variables x ≡ length (ordered (meaning x)).domains
  unfolding ordered
  domains_counted = sym sized_ranges

  actions_counted : number_at x (operators_at x) ≡ length (ordered (meaning x)).actions
  unfolding ordered
  actions_counted = sym (length-map (meaning x).actions ordered_action ∙ many)

  module _ (before middle : List ℕ) where
    abbrev LaysAll : Option ℕ → Type 0
    LaysAll r = Lays (facts_fit (meaning x)) 0 (parts first_edition (ordered (meaning x))) before middle (first_word (number_at x (operators_at x))) r

    pub parts_unfit : LaysAll None → writable (meaning x) ≡ false
    parts_unfit lays = facts_unfit (ends_none _ _ lays.end)

    module _ {end : ℕ} (lays : LaysAll (Some end)) where
      parts_end : end ≡ length (sheet_words x)
      parts_end = (ends_some lays.end).1 ∙ rw actions_counted (words_end first_edition (ordered (meaning x)))

      pub words_over : limits.words < end → writable (meaning x) ≡ false
      words_over more = words_unfit (rw parts_end at more)

      -- the first four words before the parts make the sheet
      pub sheet_built : (v n : ℕ) → v ≡ variables x → n ≡ number_at x (operators_at x) → (after : List ℕ)
          → after ≡ sets middle 0 (first_edition ∷ v ∷ n ∷ end ∷ []) → 1 ≤ v → v ≤ limits.variables → n ≤ limits.actions
          → variables_fit (ranges x) (state x) ≡ true → end ≤ limits.words → Builds x before after (Some end)
      sheet_built v n counted number after headed one low brief fit_ranges short_words =
          let fits : facts_fit (meaning x) ≡ true = (ends_some lays.end).0 in
          let T : Task = ordered (meaning x) in
          let laying : middle ≡ laid 0 (first_word (length T.actions)) (parts first_edition T) before = lays.written fits ∙ rw actions_counted in
          let front : after ≡ sets middle 0 (first_edition ∷ length T.domains ∷ length T.actions ∷ length (encode first_edition T) ∷ []) =
          headed ∙ rw (counted ∙ domains_counted, number ∙ actions_counted, parts_end) in
          let passes : writable (meaning x) ≡ true =
          all_pass (rw counted at one) (rw counted at low) (rw number at brief) fit_ranges fits (rw parts_end at short_words) in
          record { words = rw (passes, parts_end); written = λ _ room. sheet_written first_edition T before middle after laying front room }

-- numbers that passed the first test are the numbers
pub built_of : {x y before after : List ℕ} {r : Option ℕ} → Some y ≡ cond (says_variables x) (Some x) None
    → (variables y ≤ limits.variables → variables_fit (ranges y) (state y) ≡ true → Builds y before after r) → Builds x before after r
built_of {x} {y} {before} {after} {r} told builds =
    let passed = cond_some (says_variables x) x y (sym told) in
    let is : x ≡ y = passed.1 in
    let (few, fits) = (and-eq-true_iff (leb (variables y) limits.variables) (variables_fit (ranges y) (state y))).0 (rw is at passed.0) in
    subst (λ z. Builds z before after r) (sym is) (builds (leb-true _ _ few) fits)

pub none_built : {x before : List ℕ} → None ≡ cond (says_variables x) (Some x) None → Builds x before before None
none_built {x} told = builds_unfit (variables_unfit x (no_numbers (says_variables x) told))
  where
    no_numbers : (b : Bool) → None ≡ cond b (Some x) None → b ≡ false
    no_numbers true e = absurd (none-some x e)
    no_numbers false e = refl
