-- Where a record ends, by the tests that decide it, where n is how many words the task has and m how many the plan; its form, and how many bytes must be read
-- to tell it, by where it ends; and what an ending and a form say of the bytes. Assumes nothing.
use Prim.Native.Nat.{ℕ, ◌+◌, ◌*◌, ◌≤◌, ◌<◌}
use native.Mathlib.Omega.{arith}
use mathlib.Core.Path.{◌≡◌, refl, sym, ◌∙◌, ap}
use mathlib.Core.Bool.{Bool, true, false, cond}
use mathlib.Core.List.{List}
use lib.ListN.{length}
use lib.Dec.{ltb, lit≤}
use borrow.Author.Tests.{ltb-true, ltb-false, lt-ltb, le-ltb}
use Rattle.sheet.specs.Limits.{limits}
use Rattle.sheet.proofs.CauseLaws.{neither}
use Rattle.plan.specs.Limits.{most_steps}
use Rattle.std.specs.Prelude.{Result, Ok, Err}
use Rattle.records.specs.declared.frame.Extent.{Extent}
use Rattle.records.specs.declared.frame.NoEnd.{NoEnd}
use Rattle.records.specs.declared.frame.NoEnd.TheVariants as no_end
use Rattle.records.specs.declared.frame.Fault.{Fault}
use Rattle.records.specs.declared.frame.Fault.TheVariants.{Broken, Long}
use Rattle.sheet.specs.Layout.{header}
use Rattle.records.specs.RecordForm.{word_bytes, word_at, task_length, outside, plan_length, plan_start, header_bytes, record_ending, as_record, record_form, as_input, input_form}
use Rattle.records.specs.Between.Needed.{needed_for, bytes_to_read, most_bytes}

-- a number that is not outside the limits
pub inside_limits : (n : ℕ) → outside n ≡ false → (header ≤ n) × (n ≤ limits.words)
inside_limits n e = let (low, high) = neither (ltb n header) (ltb limits.words n) e in (ltb-false _ _ low, ltb-false _ _ high)

-- where a record ends, by those tests
module _ (further : ℕ) (bytes : List ℕ) where
  pub ending_header : length bytes < header_bytes → record_ending further bytes ≡ Err (no_end.Untold header_bytes)
  unfolding record_ending
  ending_header short = rw (lt-ltb _ _ short)

  module _ (header : header_bytes ≤ length bytes) (n : ℕ) (says : n ≡ task_length bytes) where
    pub ending_outside : outside n ≡ true → record_ending further bytes ≡ Err no_end.Unfit
    unfolding record_ending
    ending_outside e = rw (le-ltb _ _ header, ← says, e)

    module _ (inside : outside n ≡ false) where
      pub ending_cut : length bytes < word_bytes * (n + 1) → record_ending further bytes ≡ Err (no_end.Untold (word_bytes * (n + 1)))
      unfolding record_ending
      ending_cut short = rw (le-ltb _ _ header, ← says, inside, lt-ltb _ _ short)

      module _ (there : word_bytes * (n + 1) ≤ length bytes) (m : ℕ) (then : m ≡ word_at bytes n) where
        pub ending_long : most_steps < m → record_ending further bytes ≡ Err (no_end.Long n)
        unfolding record_ending
        ending_long long = rw (le-ltb _ _ header, ← says, inside, le-ltb _ _ there, ← then, lt-ltb _ _ long)

        pub ending_found : m ≤ most_steps → record_ending further bytes ≡ Ok (record { task = n; plan = m; end = word_bytes * (n + 1) + word_bytes * (m + further) })
        unfolding record_ending
        ending_found few = rw (le-ltb _ _ header, ← says, inside, le-ltb _ _ there, ← then, le-ltb _ _ few)

-- the form of a record, and how many bytes must be read, by where it ends
module _ (further : ℕ) (bytes : List ℕ) where
  pub form_from : (e : Result Extent NoEnd) → e ≡ record_ending further bytes → record_form further bytes ≡ as_record bytes e
  unfolding record_form
  form_from e ends = ap (as_record bytes) (sym ends)

  pub form_breaks_off : (x : Extent) → Ok x ≡ record_ending further bytes → length bytes < x.end → record_form further bytes ≡ Err Broken
  form_breaks_off x ends short = form_from (Ok x) ends ∙ rw (lt-ltb _ _ short)

  pub form_reaches : (x : Extent) → Ok x ≡ record_ending further bytes → x.end ≤ length bytes → record_form further bytes ≡ Ok x
  form_reaches x ends whole = form_from (Ok x) ends ∙ rw (le-ltb _ _ whole)

  pub reads_from : (beyond : ℕ) (e : Result Extent NoEnd) → e ≡ record_ending further bytes → bytes_to_read further beyond bytes ≡ needed_for beyond e
  unfolding bytes_to_read
  reads_from beyond e ends = ap (needed_for beyond) (sym ends)

-- a length behind the task is past word 3
header_there : (bytes : List ℕ) (n : ℕ) → outside n ≡ false → word_bytes * (n + 1) ≤ length bytes → header_bytes ≤ length bytes
header_there bytes n inside there = let (low, high) = inside_limits n inside in omega arith

module _ (further : ℕ) (bytes : List ℕ) (n : ℕ) (says : n ≡ task_length bytes) where
  pub form_outside : header_bytes ≤ length bytes → outside n ≡ true → record_form further bytes ≡ Err Broken
  form_outside header e = form_from further bytes (Err no_end.Unfit) (sym (ending_outside further bytes header n says e))

  module _ (inside : outside n ≡ false) (there : word_bytes * (n + 1) ≤ length bytes) (m : ℕ) (then : m ≡ word_at bytes n) where
    pub form_long : most_steps < m → record_form further bytes ≡ Err (Long n)
    form_long long =
        form_from further bytes (Err (no_end.Long n)) (sym (ending_long further bytes (header_there bytes n inside there) n says inside there m then long))

    pub form_whole : m ≤ most_steps → (end : ℕ) → end ≡ word_bytes * (n + 1) + word_bytes * (m + further) → end ≤ length bytes
        → record_form further bytes ≡ Ok (record { task = n; plan = m; end = end })
    form_whole few end ends whole =
        let found = ending_found further bytes (header_there bytes n inside there) n says inside there m then few in
        form_reaches further bytes (record { task = n; plan = m; end = end }) (sym (found ∙ rw (← ends))) whole

module _ (further beyond : ℕ) (bytes : List ℕ) where
  pub reads_header : length bytes < header_bytes → bytes_to_read further beyond bytes ≡ header_bytes
  reads_header short = reads_from further bytes beyond (Err (no_end.Untold header_bytes)) (sym (ending_header further bytes short))

  module _ (header : header_bytes ≤ length bytes) (n : ℕ) (says : n ≡ task_length bytes) where
    pub reads_outside : outside n ≡ true → bytes_to_read further beyond bytes ≡ 0
    reads_outside e = reads_from further bytes beyond (Err no_end.Unfit) (sym (ending_outside further bytes header n says e))

    module _ (inside : outside n ≡ false) where
      pub reads_start : length bytes < word_bytes * (n + 1) → bytes_to_read further beyond bytes ≡ word_bytes * (n + 1)
      reads_start short =
          reads_from further bytes beyond (Err (no_end.Untold (word_bytes * (n + 1)))) (sym (ending_cut further bytes header n says inside short))

      module _ (there : word_bytes * (n + 1) ≤ length bytes) (m : ℕ) (then : m ≡ word_at bytes n) where
        pub reads_long : most_steps < m → bytes_to_read further beyond bytes ≡ 0
        reads_long long = reads_from further bytes beyond (Err (no_end.Long n)) (sym (ending_long further bytes header n says inside there m then long))

        pub reads_end : m ≤ most_steps → bytes_to_read further beyond bytes ≡ word_bytes * (n + 1) + word_bytes * (m + further) + beyond
        reads_end few = reads_from further bytes beyond (Ok (record { task = n; plan = m; end = word_bytes * (n + 1) + word_bytes * (m + further) })) (sym (ending_found further bytes header n says inside there m then few))

-- the form of an input by that of its record: a whole one runs on, or ends
module _ (further : ℕ) (bytes : List ℕ) where
  pub input_from : (f : Result Extent Fault) → f ≡ record_form further bytes → input_form further bytes ≡ as_input bytes f
  unfolding input_form
  input_from f frames = ap (as_input bytes) (sym frames)

  pub input_runs_on : (x : Extent) → Ok x ≡ record_form further bytes → x.end < length bytes → input_form further bytes ≡ Err Broken
  input_runs_on x frames on = input_from (Ok x) frames ∙ rw (lt-ltb _ _ on)

  pub input_ends : (x : Extent) → Ok x ≡ record_form further bytes → length bytes ≤ x.end → input_form further bytes ≡ Ok x
  input_ends x frames over = input_from (Ok x) frames ∙ rw (le-ltb _ _ over)

-- what an ending says of the bytes: no more are needed to tell more than go to the plan's length; a task of n words is there, with a length behind it; and that
-- is the length m of a plan
pub record TaskThere (bytes : List ℕ) (n : ℕ) : Type 0 where
  pub says : n ≡ task_length bytes
  pub inside : outside n ≡ false
  pub there : word_bytes * (n + 1) ≤ length bytes

pub record EndThere (further : ℕ) (bytes : List ℕ) (x : Extent) : Type 0 where
  pub task : TaskThere bytes x.task
  pub plan : x.plan ≡ word_at bytes x.task
  pub few : x.plan ≤ most_steps
  pub ends : x.end ≡ word_bytes * (x.task + 1) + word_bytes * (x.plan + further)

abbrev pub Tells : ℕ → List ℕ → Result Extent NoEnd → Type 0
Tells further bytes (Err (no_end.Untold k)) = k ≤ word_bytes * (limits.words + 1)
Tells further bytes (Err no_end.Unfit) = Unit
Tells further bytes (Err (no_end.Long n)) = TaskThere bytes n
Tells further bytes (Ok x) = EndThere further bytes x

pub ending_tells : (further : ℕ) (bytes : List ℕ) → Tells further bytes (record_ending further bytes)
ending_tells further bytes = by_header (ltb (length bytes) header_bytes) refl
  where
    n : ℕ
    n = task_length bytes

    m : ℕ
    m = plan_length bytes

    by_plan : header_bytes ≤ length bytes → outside n ≡ false → plan_start bytes ≤ length bytes → (b : Bool) → ltb most_steps m ≡ b
        → Tells further bytes (record_ending further bytes)
    by_plan header inside there true e =
        rw (ending_long further bytes header n refl inside there m refl (ltb-true _ _ e)) (record { says = refl; inside = inside; there = there })
    by_plan header inside there false e =
        rw (ending_found further bytes header n refl inside there m refl (ltb-false _ _ e))
        (record { task = record { says = refl; inside = inside; there = there }; plan = refl; few = ltb-false _ _ e; ends = refl })

    by_start : header_bytes ≤ length bytes → outside n ≡ false → (b : Bool) → ltb (length bytes) (plan_start bytes) ≡ b
        → Tells further bytes (record_ending further bytes)
    by_start header inside true e =
        let (low, high) = inside_limits n inside in
        rw (ending_cut further bytes header n refl inside (ltb-true _ _ e)) (omega arith)
    by_start header inside false e = by_plan header inside (ltb-false _ _ e) (ltb most_steps m) refl

    by_limits : header_bytes ≤ length bytes → (b : Bool) → outside n ≡ b → Tells further bytes (record_ending further bytes)
    by_limits header true e = rw (ending_outside further bytes header n refl e) tt
    by_limits header false e = by_start header e (ltb (length bytes) (plan_start bytes)) refl

    by_header : (b : Bool) → ltb (length bytes) header_bytes ≡ b → Tells further bytes (record_ending further bytes)
    by_header true e = rw (ending_header further bytes (ltb-true _ _ e)) (lit≤ tt)
    by_header false e = by_limits (ltb-false _ _ e) (outside n) refl

-- no more bytes are ever read than the longest record has, with those beyond it
module _ (further beyond : ℕ) (bytes : List ℕ) where
  told_by : (e : Result Extent NoEnd) → e ≡ record_ending further bytes → Tells further bytes e
  told_by e ends = rw (sym ends) at (ending_tells further bytes)

  pub untold_low : (k : ℕ) → Err (no_end.Untold k) ≡ record_ending further bytes → k ≤ most_bytes further beyond
  untold_low k ends = omega (arith, told_by (Err (no_end.Untold k)) ends)

  pub end_low : (x : Extent) → Ok x ≡ record_ending further bytes → x.end + beyond ≤ most_bytes further beyond
  end_low x ends =
      let there : EndThere further bytes x = told_by (Ok x) ends in
      let (low, high) = inside_limits x.task there.task.inside in
      omega (arith, there.few, there.ends)

-- a form says the same
abbrev pub Says : ℕ → List ℕ → Result Extent Fault → Type 0
Says further bytes (Err Broken) = Unit
Says further bytes (Err (Long n)) = TaskThere bytes n
Says further bytes (Ok x) = EndThere further bytes x

as_record_says : (further : ℕ) (bytes : List ℕ) (e : Result Extent NoEnd) → Tells further bytes e → Says further bytes (as_record bytes e)
as_record_says further bytes (Err (no_end.Untold k)) tells = tt
as_record_says further bytes (Err no_end.Unfit) tells = tt
as_record_says further bytes (Err (no_end.Long n)) tells = tells
as_record_says further bytes (Ok x) tells = by_case (ltb (length bytes) x.end)
  where
    by_case : (b : Bool) → Says further bytes (cond b (Err Broken) (Ok x))
    by_case true = tt
    by_case false = tells

pub form_says : (further : ℕ) (bytes : List ℕ) → Says further bytes (record_form further bytes)
unfolding record_form
form_says further bytes = as_record_says further bytes (record_ending further bytes) (ending_tells further bytes)

-- of a record that is whole, all of it must be read, and the bytes beyond it
pub whole_reads : (further beyond : ℕ) (bytes : List ℕ) (x : Extent) → record_form further bytes ≡ Ok x → bytes_to_read further beyond bytes ≡ x.end + beyond
whole_reads further beyond bytes x is =
    let there : EndThere further bytes x = rw is at (form_says further bytes) in
    let task = there.task in
    let (low, high) = inside_limits x.task task.inside in
    reads_end further beyond bytes (omega (arith, task.there)) x.task task.says task.inside task.there x.plan there.plan there.few ∙ omega arith

-- the form of an input says the same
as_input_says : (further : ℕ) (bytes : List ℕ) (f : Result Extent Fault) → Says further bytes f → Says further bytes (as_input bytes f)
as_input_says further bytes (Err Broken) says = tt
as_input_says further bytes (Err (Long n)) says = says
as_input_says further bytes (Ok x) says = by_case (ltb x.end (length bytes))
  where
    by_case : (b : Bool) → Says further bytes (cond b (Err Broken) (Ok x))
    by_case true = tt
    by_case false = says

pub input_says : (further : ℕ) (bytes : List ℕ) → Says further bytes (input_form further bytes)
unfolding input_form
input_says further bytes = as_input_says further bytes (record_form further bytes) (form_says further bytes)
