-- A line of numbers as the code reads it: where its numbers stand on the tape, and how it takes a reader on. Each way to a return of a function that reads a
-- line of one number has a law. Assumes nothing.
use Prim.Native.Nat.{ℕ, ◌+◌, ◌*◌, ◌≤◌, ◌<◌}
use native.Mathlib.Omega.{arith}
use native.Mathlib.Nat.{add-zero}
use mathlib.Core.Path.{◌≡◌, refl, sym, ◌∙◌, ap}
use mathlib.Core.Bool.{Bool, true, false, not, cond}
use mathlib.Core.List.{List, [], ◌∷◌, ◌++◌, append-nil, append_assoc}
use lib.ListN.{length, take, drop}
use lib.Seq.{sets, sets-eq, length-take-le, take_at, take-append-add}
use lib.Dec.{eqb, ltb}
use borrow.Author.Tests.{ne_eqb, lt-ltb, le-ltb}
use Rattle.refusal.specs.Place.{Place, when, or_else}
use Rattle.fields.specs.Between.Numbers.{any_value}
use Rattle.fields.specs.Between.Fields.{is_number, word_reads, all_plain}
use Rattle.fields.specs.declared.word.Word.{Word}
use Rattle.fields.specs.declared.word.End.{End}
use Rattle.fields.specs.declared.word.End.TheVariants.{LineEnd}
use Rattle.fields.specs.Between.Reading.{HasWord, LacksWord, HasNumbers, LacksNumbers}
use Rattle.fields.proofs.LineLaws.{fails_either}
use Rattle.fields.proofs.NumberLaws.{numbers_last, no_numbers_last, no_numbers_on, word_ahead, any_kind, no_other_kind, number_kind, sign_kind, number_plain}
use Rattle.form.specs.declared.reader.Reader.{Reader}
use Rattle.form.specs.Between.Form.{Row, Due, Metric, Layer, Value, Count, Axioms, numbers, numbers_fit, fits, further, after_row, bars, row_bars, kept, row_keeps}
use Rattle.form.specs.Between.Reading.{Stand, stand, passed, keeping, noting, going_on, after_first}
use Rattle.form.specs.Between.Reading.Outcome.{Broken}
use Rattle.number_rows.specs.Between.Rows.{PlainRow}
use Rattle.form.proofs.GoingLaws.{going_broken, going_next}
use Rattle.form.proofs.StopLaws.{first_or_none}

-- a starting value, and a cost, are lines of one number
pub plain_value : PlainRow true Value
unfolding numbers_fit
plain_value = record { fits = λ xs. refl; kept = refl; passes = λ xs. refl }

-- numbers put on the tape, behind the first `count` of it
module _ (tape xs : List ℕ) (count : ℕ) (room : count + length xs ≤ length tape) where
  behind : List ℕ
  behind = drop (count + length xs) tape

  in_place : sets tape count xs ≡ take count tape ++ (xs ++ behind)
  unfolding behind
  in_place = sets-eq xs tape count room ∙ append_assoc (take count tape) xs (drop (count + length xs) tape)

  front_long : length (take count tape) ≡ count
  front_long = length-take-le count tape (omega arith)

  pub taken : (b : Bool) → take (count + cond b (length xs) 0) (sets tape count xs) ≡ take count tape ++ cond b xs []
  taken true =
      rw in_place (rw front_long at (take-append-add (take count tape) (xs ++ behind) (length xs)) ∙ ap (λ l. take count tape ++ l) (take_at xs behind (length xs) refl))
  taken false = rw (add-zero, in_place) (take_at (take count tape) (xs ++ behind) count front_long ∙ sym (append-nil (take count tape)))

-- a number that is read leaves two bytes less
pub number_ahead : {bs : List ℕ} {e : End} {w : Word} → HasWord is_number bs e w → length w.rest.now + 2 ≤ length bs
number_ahead {bs} {e} {w} has = word_ahead is_number number_kind bs e w has

-- room for one number more, where a reader stands
pub room_at : (s : Reader) (t : Stand) → stand s ≡ t → 2 * (t.count + 1) + length t.rest ≤ 2 * length t.tape
    → 2 * (s.count + 1) + length s.rest.now ≤ 2 * length s.tape.now
room_at s t e room = omega (arith, room, ap (λ u. u.count) e, ap (λ u. length u.rest) e, ap (λ u. length u.tape) e)

-- a line where one is due: it is not the one due, or it is
module _ (s : Stand) (row : Row) where
  pub row_lacks : LacksNumbers (numbers_fit row) s.rest → (ds : List Due) → going_on (numbers row ∷ ds) s ≡ Broken (s.line + 1)
  unfolding fits
  row_lacks lacks = going_broken s (numbers row) lacks

  module _ (xs after : List ℕ) (has : HasNumbers s.rest xs after) (right : numbers_fit row xs ≡ true) where
    pub row_read : (tape : List ℕ) (count : ℕ) (barred : Place) → take count tape ≡ take s.count s.tape ++ cond (row_keeps row) xs []
        → barred ≡ or_else s.barred (when (row_bars row xs) (s.line + 1)) → (next : List Due)
        → going_on (after_row row xs ++ next) (record { rest = after; tape = tape; tape_at = s.tape_at; line = s.line + 1; count = count; barred = barred })
        ≡ going_on (numbers row ∷ next) s
    unfolding fits further kept bars
    row_read tape count barred more bar next =
        let is : numbers_fit row xs ≡ true = right in
        let numbers_are = has.numbers in
        ap
        (λ ys. going_on (after_row row ys ++ next) (record { rest = after; tape = tape; tape_at = s.tape_at; line = s.line + 1; count = count; barred = barred }))
        (sym numbers_are)
        ∙ going_next s (numbers row) has.line after has.cut (rw (has.reads, numbers_are) is) tape count barred (rw numbers_are more) (rw numbers_are bar) next

-- a line of one number: the one that is due, with the line's end behind it, or none
module _ (s : Stand) where
  module _ (w : Word) where
    -- kept, passed over, or passed over with a note
    module _ (reads : List ℕ → Bool) (kind : (v : List ℕ) → reads v ≡ true → word_reads v ≡ true) (has : HasWord reads s.rest LineEnd w) (row : Row)
        (right : numbers_fit row (w.value ∷ []) ≡ true) where
      one_read : (tape : List ℕ) (count : ℕ) (barred : Place) → take count tape ≡ take s.count s.tape ++ cond (row_keeps row) (w.value ∷ []) []
          → barred ≡ or_else s.barred (when (row_bars row (w.value ∷ [])) (s.line + 1)) → (next : List Due)
          → going_on (after_first row w.value ++ next) (record { rest = w.rest.now; tape = tape; tape_at = s.tape_at; line = s.line + 1; count = count; barred = barred })
          ≡ going_on (numbers row ∷ next) s
      one_read = row_read s row (w.value ∷ []) w.rest.now (numbers_last reads kind s.rest w has) right

      one_kept : s.count + 1 ≤ length s.tape → row_keeps row ≡ true → row_bars row (w.value ∷ []) ≡ false → (next : List Due)
          → going_on (after_first row w.value ++ next) (keeping w.value (passed w.rest.now s)) ≡ going_on (numbers row ∷ next) s
      one_kept room keeps passes =
          one_read _ (s.count + 1) s.barred (rw keeps (taken s.tape (w.value ∷ []) s.count room true)) (rw passes (first_or_none s.barred))

      one_passed : row_keeps row ≡ false → row_bars row (w.value ∷ []) ≡ false → (next : List Due)
          → going_on (after_first row w.value ++ next) (passed w.rest.now s) ≡ going_on (numbers row ∷ next) s
      one_passed drops passes =
          one_read s.tape s.count s.barred (rw drops (sym (append-nil (take s.count s.tape)))) (rw passes (first_or_none s.barred))

      one_noted : (b : Bool) → row_keeps row ≡ false → row_bars row (w.value ∷ []) ≡ b → (next : List Due)
          → going_on (after_first row w.value ++ next) (noting b (passed w.rest.now s)) ≡ going_on (numbers row ∷ next) s
      one_noted b drops noted =
          one_read s.tape s.count (or_else s.barred (when b (s.line + 1))) (rw drops (sym (append-nil (take s.count s.tape))))
          (rw noted)

    -- a number that every sheet can say
    module _ (row : Row) (has : HasWord is_number s.rest LineEnd w) where
      plain_fits : (keeps : Bool) → PlainRow keeps row → numbers_fit row (w.value ∷ []) ≡ true
      unfolding all_plain
      plain_fits keeps plain_row = plain_row.fits (w.value ∷ []) ∙ rw (number_plain has)

      pub plain_kept : PlainRow true row → s.count + 1 ≤ length s.tape → (next : List Due)
          → going_on (after_first row w.value ++ next) (keeping w.value (passed w.rest.now s)) ≡ going_on (numbers row ∷ next) s
      plain_kept plain_row room =
          one_kept is_number number_kind has row (plain_fits true plain_row) room plain_row.kept (plain_row.passes (w.value ∷ []))

      pub plain_passed : PlainRow false row → (next : List Due)
          → going_on (after_first row w.value ++ next) (passed w.rest.now s) ≡ going_on (numbers row ∷ next) s
      plain_passed plain_row = one_passed is_number number_kind has row (plain_fits false plain_row) plain_row.kept (plain_row.passes (w.value ∷ []))

    module _ (has : HasWord is_number s.rest LineEnd w) where
      -- the metric
      pub metric_high : 1 < w.value → (ds : List Due) → going_on (numbers Metric ∷ ds) s ≡ Broken (s.line + 1)
      unfolding numbers_fit
      metric_high high = row_lacks s Metric (no_numbers_last is_number number_kind s.rest w has (numbers_fit Metric) (rw (le-ltb w.value 2 (omega arith))))

      pub metric_read : w.value ≤ 1 → s.count + 1 ≤ length s.tape → (next : List Due)
          → going_on next (keeping w.value (passed w.rest.now s)) ≡ going_on (numbers Metric ∷ next) s
      unfolding numbers_fit
      metric_read low room = one_kept is_number number_kind has Metric (rw (lt-ltb w.value 2 (omega arith))) room refl refl

      -- how many axioms there are
      pub axiom_count_read : (next : List Due)
          → going_on (after_first (Count Axioms) w.value ++ next) (noting (ltb 0 w.value) (passed w.rest.now s)) ≡ going_on (numbers (Count Axioms) ∷ next) s
      unfolding numbers_fit all_plain
      axiom_count_read = one_noted is_number number_kind has (Count Axioms) (rw (number_plain has)) (ltb 0 w.value) refl refl

    -- an axiom layer
    pub layer_read : HasWord word_reads s.rest LineEnd w → (next : List Due)
        → going_on next (noting (not (eqb w.value any_value)) (passed w.rest.now s)) ≡ going_on (numbers Layer ∷ next) s
    unfolding numbers_fit
    layer_read has = one_noted word_reads any_kind has Layer refl (not (eqb w.value any_value)) refl refl

  module _ (none : LacksWord is_number s.rest LineEnd) where
    number_lacks : (row : Row) → ((xs : List ℕ) → numbers_fit row (any_value ∷ xs) ≡ false) → ((v x : ℕ) (xs : List ℕ) → numbers_fit row (v ∷ x ∷ xs) ≡ false)
        → (ds : List Due) → going_on (numbers row ∷ ds) s ≡ Broken (s.line + 1)
    number_lacks row signed longer =
        row_lacks s row (no_numbers_on is_number number_kind s.rest (numbers_fit row) (sign_kind (numbers_fit row) signed) none longer)

    pub plain_lacks : (keeps : Bool) (row : Row) → PlainRow keeps row → (ds : List Due) → going_on (numbers row ∷ ds) s ≡ Broken (s.line + 1)
    unfolding all_plain
    plain_lacks keeps row plain_row =
        number_lacks row (λ xs. plain_row.fits (any_value ∷ xs) ∙ fails_either (eqb (length (any_value ∷ xs)) 1))
        (λ v x xs. plain_row.fits (v ∷ x ∷ xs) ∙ rw (ne_eqb (length (v ∷ x ∷ xs)) 1 (λ e. omega arith)))

    pub metric_lacks : (ds : List Due) → going_on (numbers Metric ∷ ds) s ≡ Broken (s.line + 1)
    unfolding numbers_fit
    metric_lacks =
        number_lacks Metric (λ xs. fails_either (eqb (length (any_value ∷ xs)) 1)) (λ v x xs. rw (ne_eqb (length (v ∷ x ∷ xs)) 1 (λ e. omega arith)))

    pub axiom_count_lacks : (ds : List Due) → going_on (numbers (Count Axioms) ∷ ds) s ≡ Broken (s.line + 1)
    unfolding numbers_fit all_plain
    axiom_count_lacks =
        number_lacks (Count Axioms) (λ xs. fails_either (eqb (length (any_value ∷ xs)) 1)) (λ v x xs. rw (ne_eqb (length (v ∷ x ∷ xs)) 1 (λ e. omega arith)))

  pub layer_lacks : LacksWord word_reads s.rest LineEnd → (ds : List Due) → going_on (numbers Layer ∷ ds) s ≡ Broken (s.line + 1)
  unfolding numbers_fit
  layer_lacks none =
      row_lacks s Layer
      (no_numbers_on word_reads any_kind s.rest (numbers_fit Layer) (no_other_kind (numbers_fit Layer)) none (λ v x xs. ne_eqb (length (v ∷ x ∷ xs)) 1 (λ e. omega arith)))
