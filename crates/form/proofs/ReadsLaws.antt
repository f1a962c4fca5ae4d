-- Lines read in turn: what one part of them leads to, the next goes on from. Most laws stand twice: of what is found, wherever the tape lies (`_found`), and
-- of what is read with the tape that was there. Assumes nothing.
use Prim.Native.Nat.{ℕ, suc, ◌+◌, ◌-◌, ◌≤◌, ◌<◌}
use native.Mathlib.Omega.{arith}
use mathlib.Core.Path.{◌≡◌, sym, ◌∙◌, ap}
use mathlib.Core.List.{List, [], ◌∷◌, ◌++◌, append_assoc}
use Rattle.std.specs.Prelude.{Result, Ok, Err}
use Rattle.std.specs.Result.{IsErrAnd}
use Rattle.std.proofs.lemmas.Result.{err_from_is_err_and}
use Rattle.form.specs.declared.reader.Reader.{Reader}
use Rattle.form.specs.Between.Form.{Row, Count, Counted, Due, numbers, counts, times, after_count}
use Rattle.form.specs.Between.Reading.{Stand, going_on, stand, FindsSame, Reads, after_first, FindsSameRow, ReadsRow}

-- a reader as the code leaves it, and a line of numbers that it has read: what is found there
pub reads_at : {ds : List Due} {r s : Reader} {t : Stand} → stand s ≡ t → ((next : List Due) → going_on next t ≡ going_on (ds ++ next) (stand r))
    → FindsSame ds r (Ok tt) s
reads_at e same = record { same = λ next. rw e (same next) }

pub row_at : {row : Row} {x : ℕ} {r s : Reader} {t : Stand} → stand s ≡ t
    → ((next : List Due) → going_on (after_first row x ++ next) t ≡ going_on (numbers row ∷ next) (stand r)) → FindsSameRow row r (Ok x) s
row_at e same = record { same = λ next. rw e (same next) }

-- to read is to find so with the tape that was there
module _ {r s : Reader} where
  pub on_tape : {ds : List Due} {result : Result (Unit {0}) ℕ} → FindsSame ds r result s → s.tape.ref_ptr ≡ r.tape.ref_ptr → Reads ds r result s
  on_tape found lies = record { same = found.same; same_tape = lies }

  pub row_found_on_tape : {row : Row} {result : Result ℕ ℕ} → FindsSameRow row r result s → s.tape.ref_ptr ≡ r.tape.ref_ptr → ReadsRow row r result s
  row_found_on_tape found lies = record { same = found.same; same_tape = lies }

  pub finds_by : {ds : List Due} {result : Result (Unit {0}) ℕ} → Reads ds r result s → FindsSame ds r result s
  finds_by read = record { same = read.same }

  pub finds_row_by : {row : Row} {result : Result ℕ ℕ} → ReadsRow row r result s → FindsSameRow row r result s
  finds_row_by read = record { same = read.same }

-- a reader as the code leaves it, with the tape that was there
pub reads_on_tape : {ds : List Due} {r s : Reader} {t : Stand} → stand s ≡ t → t.tape_at ≡ r.tape.ref_ptr
    → ((next : List Due) → going_on next t ≡ going_on (ds ++ next) (stand r)) → Reads ds r (Ok tt) s
reads_on_tape e lies same = on_tape (reads_at e same) (ap (λ u. u.tape_at) e ∙ lies)

pub row_on_tape : {row : Row} {x : ℕ} {r s : Reader} {t : Stand} → stand s ≡ t → t.tape_at ≡ r.tape.ref_ptr
    → ((next : List Due) → going_on (after_first row x ++ next) t ≡ going_on (numbers row ∷ next) (stand r)) → ReadsRow row r (Ok x) s
row_on_tape e lies same = row_found_on_tape (row_at e same) (ap (λ u. u.tape_at) e ∙ lies)

-- a line that is not what it must be, where `?` passes it on
pub passed_on_found : {ds : List Due} {r s : Reader} {result : Result (Unit {0}) ℕ} {n : ℕ} → IsErrAnd result (λ m. m ≡ n) → FindsSame ds r (Err n) s
    → FindsSame ds r result s
passed_on_found {result = result} is stopped = let (m, e, f) = err_from_is_err_and result is in rw (e, f) stopped

pub passed_on : {ds : List Due} {r s : Reader} {result : Result (Unit {0}) ℕ} {n : ℕ} → IsErrAnd result (λ m. m ≡ n) → Reads ds r (Err n) s
    → Reads ds r result s
passed_on is stopped = on_tape (passed_on_found is (finds_by stopped)) stopped.same_tape

module _ {r s : Reader} where
  -- one part, then another; or the first stops
  pub reads_then_found : {first second : List Due} {u : Reader} {result : Result (Unit {0}) ℕ} → FindsSame first r (Ok tt) s
      → FindsSame second s result u → FindsSame (first ++ second) r result u
  reads_then_found {first} {second} before after =
      record { same = λ next. after.same next ∙ before.same (second ++ next) ∙ ap (λ ds. going_on ds (stand r)) (sym (append_assoc first second next)) }

  pub reads_then : {first second : List Due} {u : Reader} {result : Result (Unit {0}) ℕ} → Reads first r (Ok tt) s → Reads second s result u
      → Reads (first ++ second) r result u
  reads_then before after = on_tape (reads_then_found (finds_by before) (finds_by after)) (after.same_tape ∙ before.same_tape)

  pub reads_stopped_found : {first : List Due} (second : List Due) {n : ℕ} → FindsSame first r (Err n) s → FindsSame (first ++ second) r (Err n) s
  reads_stopped_found {first} second stopped =
      record { same = λ next. stopped.same (second ++ next) ∙ ap (λ ds. going_on ds (stand r)) (sym (append_assoc first second next)) }

  pub reads_stopped : {first : List Due} (second : List Due) {n : ℕ} → Reads first r (Err n) s → Reads (first ++ second) r (Err n) s
  reads_stopped second stopped = on_tape (reads_stopped_found second (finds_by stopped)) stopped.same_tape

  -- the same for one line
  pub line_then_found : {d : Due} {ds : List Due} {u : Reader} {result : Result (Unit {0}) ℕ} → FindsSame (d ∷ []) r (Ok tt) s → FindsSame ds s result u
      → FindsSame (d ∷ ds) r result u
  line_then_found before after = record { same = λ next. after.same next ∙ before.same _ }

  pub line_then : {d : Due} {ds : List Due} {u : Reader} {result : Result (Unit {0}) ℕ} → Reads (d ∷ []) r (Ok tt) s → Reads ds s result u
      → Reads (d ∷ ds) r result u
  line_then before after = on_tape (line_then_found (finds_by before) (finds_by after)) (after.same_tape ∙ before.same_tape)

  pub line_stopped_found : {d : Due} {ds : List Due} {n : ℕ} → FindsSame (d ∷ []) r (Err n) s → FindsSame (d ∷ ds) r (Err n) s
  line_stopped_found stopped = record { same = λ next. stopped.same _ }

  pub line_stopped : {d : Due} {ds : List Due} {n : ℕ} → Reads (d ∷ []) r (Err n) s → Reads (d ∷ ds) r (Err n) s
  line_stopped stopped = on_tape (line_stopped_found (finds_by stopped)) stopped.same_tape

  -- a line of numbers that adds no line
  pub row_alone_found : {row : Row} {x : ℕ} → after_first row x ≡ [] → FindsSameRow row r (Ok x) s → FindsSame (numbers row ∷ []) r (Ok tt) s
  row_alone_found none read = record { same = λ next. ap (λ ds. going_on (ds ++ next) (stand s)) (sym none) ∙ read.same next }

  pub row_alone : {row : Row} {x : ℕ} → after_first row x ≡ [] → ReadsRow row r (Ok x) s → Reads (numbers row ∷ []) r (Ok tt) s
  row_alone none read = on_tape (row_alone_found none (finds_row_by read)) read.same_tape

  -- and one that is none
  pub row_stopped_found : {row : Row} {n : ℕ} → FindsSameRow row r (Err n) s → FindsSame (numbers row ∷ []) r (Err n) s
  row_stopped_found stopped = record { same = λ next. stopped.same next }

  pub row_stopped : {row : Row} {n : ℕ} → ReadsRow row r (Err n) s → Reads (numbers row ∷ []) r (Err n) s
  row_stopped stopped = on_tape (row_stopped_found (finds_row_by stopped)) stopped.same_tape

  -- a number that says how many lines follow, and those lines
  pub row_counted_found : {u : Reader} {result : Result (Unit {0}) ℕ} {what : Counted} {n : ℕ} {ds : List Due} → FindsSameRow (Count what) r (Ok n) s
      → after_count what n ≡ ds → FindsSame ds s result u → FindsSame (counts what ∷ []) r result u
  row_counted_found read lines after =
      record { same = λ next. after.same next ∙ ap (λ k. going_on (k ++ next) (stand s)) (sym lines) ∙ read.same next }

  pub row_counted : {u : Reader} {result : Result (Unit {0}) ℕ} {what : Counted} {n : ℕ} {ds : List Due} → ReadsRow (Count what) r (Ok n) s
      → after_count what n ≡ ds → Reads ds s result u → Reads (counts what ∷ []) r result u
  row_counted read lines after = on_tape (row_counted_found (finds_row_by read) lines (finds_by after)) (after.same_tape ∙ read.same_tape)

-- i of n times the same lines are passed: going on with the others finds the same
pub record LeftSame (i n : ℕ) (ds : List Due) (r s : Reader) : Type 0 where
  pub same : (next : List Due) → going_on (times (n - i) ds ++ next) (stand s) ≡ going_on (times n ds ++ next) (stand r)

module _ (n : ℕ) (ds : List Due) {r : Reader} (i : ℕ) {s : Reader} (left : LeftSame i n ds r s) where
  module _ (more : i < n) where
    one_more : (next : List Due) → going_on (ds ++ (times (n - (i + 1)) ds ++ next)) (stand s) ≡ going_on (times n ds ++ next) (stand r)
    unfolding times
    one_more next =
        let one : n - i ≡ suc (n - (i + 1)) = omega arith in
        ap (λ l. going_on l (stand s)) (sym (append_assoc ds (times (n - (i + 1)) ds) next))
        ∙ ap (λ k. going_on (times k ds ++ next) (stand s)) (sym one)
        ∙ left.same next

    pub repeats_more_found : {u : Reader} → FindsSame ds s (Ok tt) u → LeftSame (i + 1) n ds r u
    repeats_more_found found = record { same = λ next. found.same (times (n - (i + 1)) ds ++ next) ∙ one_more next }

    pub repeats_stopped_found : {u : Reader} {m : ℕ} → FindsSame ds s (Err m) u → FindsSame (times n ds) r (Err m) u
    repeats_stopped_found stopped = record { same = λ next. stopped.same (times (n - (i + 1)) ds ++ next) ∙ one_more next }

  pub repeats_over_found : n ≤ i → FindsSame (times n ds) r (Ok tt) s
  unfolding times
  repeats_over_found over =
      let none : n - i ≡ 0 = omega arith in
      record { same = λ next. ap (λ k. going_on (times k ds ++ next) (stand s)) (sym none) ∙ left.same next }

-- i of n times the same lines are read
pub record Left (i n : ℕ) (ds : List Due) (r s : Reader) : Type 0 where
  pub same : (next : List Due) → going_on (times (n - i) ds ++ next) (stand s) ≡ going_on (times n ds ++ next) (stand r)
  pub same_tape : s.tape.ref_ptr ≡ r.tape.ref_ptr

module _ (n : ℕ) (ds : List Due) {r : Reader} where
  module _ (i : ℕ) {s : Reader} (left : Left i n ds r s) where
    left_same : LeftSame i n ds r s
    left_same = record { same = left.same }

    left_read : {k : ℕ} {u : Reader} → LeftSame k n ds r u → u.tape.ref_ptr ≡ r.tape.ref_ptr → Left k n ds r u
    left_read found lies = record { same = found.same; same_tape = lies }

    module _ (more : i < n) where
      pub repeats_more : {u : Reader} → Reads ds s (Ok tt) u → Left (i + 1) n ds r u
      repeats_more read = left_read (repeats_more_found n ds i left_same more (finds_by read)) (read.same_tape ∙ left.same_tape)

      pub repeats_stopped : {u : Reader} {m : ℕ} → Reads ds s (Err m) u → Reads (times n ds) r (Err m) u
      repeats_stopped stopped = on_tape (repeats_stopped_found n ds i left_same more (finds_by stopped)) (stopped.same_tape ∙ left.same_tape)

    pub repeats_over : n ≤ i → Reads (times n ds) r (Ok tt) s
    repeats_over over = on_tape (repeats_over_found n ds i left_same over) left.same_tape
