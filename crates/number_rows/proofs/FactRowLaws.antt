-- Lines of a fact, as the code reads them number by number. Each way to a return of the function that reads one has a law. Assumes nothing.
use Prim.Native.Nat.{ℕ, ◌+◌, ◌≤◌}
use native.Mathlib.Omega.{arith}
use native.Mathlib.Numerals.{add-one}
use mathlib.Core.Path.{◌≡◌, refl, sym, ◌∙◌}
use mathlib.Core.Bool.{Bool, true, false, ◌&&◌}
use mathlib.Core.List.{List, [], ◌∷◌, append-nil}
use lib.ListN.{length, take}
use lib.Dec.{eqb}
use borrow.Author.Tests.{ne_eqb}
use Rattle.fields.specs.Between.Numbers.{any_value}
use Rattle.fields.specs.Between.Fields.{is_number, plain, all_plain}
use Rattle.fields.specs.declared.word.Word.{Word}
use Rattle.fields.specs.declared.word.End.TheVariants.{Space, LineEnd}
use Rattle.fields.specs.Between.Reading.{HasWord, LacksWord, HasNumbers}
use Rattle.fields.proofs.LineLaws.{fails_either}
use Rattle.fields.proofs.NumberLaws.{numbers_next, numbers_last, no_numbers_next, no_numbers_ended, no_numbers_on, number_kind, sign_kind, number_plain}
use Rattle.form.specs.Between.Form.{Due, numbers, numbers_fit}
use Rattle.form.specs.Between.Reading.{Stand, passed, keeping, going_on}
use Rattle.form.specs.Between.Reading.Outcome.{Broken}
use Rattle.number_rows.specs.Between.Rows.{fact_row}
use Rattle.form.proofs.StopLaws.{first_or_none}
use Rattle.number_rows.proofs.RowLaws.{taken, row_lacks, row_read}

fact_test : (keeps : Bool) (xs : List ℕ) → numbers_fit (fact_row keeps) xs ≡ eqb (length xs) 2 && all_plain xs
unfolding numbers_fit
fact_test true xs = refl
fact_test false xs = refl

-- a fact: what `read_fact` returns
module _ (s : Stand) (keeps : Bool) where
  pub fact_ended : LacksWord is_number s.rest Space → (ds : List Due) → going_on (numbers (fact_row keeps) ∷ ds) s ≡ Broken (s.line + 1)
  unfolding all_plain
  fact_ended none =
      row_lacks s (fact_row keeps)
      (no_numbers_ended is_number number_kind s.rest (numbers_fit (fact_row keeps))
      (sign_kind (numbers_fit (fact_row keeps)) (λ xs. fact_test keeps (any_value ∷ xs) ∙ fails_either (eqb (length (any_value ∷ xs)) 2)))
      none (λ v. fact_test keeps (v ∷ [])))

  module _ (w : Word) (has : HasWord is_number s.rest Space w) where
    pub fact_on : LacksWord is_number w.rest.now LineEnd → (ds : List Due) → going_on (numbers (fact_row keeps) ∷ ds) s ≡ Broken (s.line + 1)
    unfolding all_plain
    fact_on none =
        row_lacks s (fact_row keeps)
        (no_numbers_next is_number number_kind s.rest w has (numbers_fit (fact_row keeps))
        (no_numbers_on is_number number_kind w.rest.now (λ xs. numbers_fit (fact_row keeps) (w.value ∷ xs))
        (sign_kind (λ xs. numbers_fit (fact_row keeps) (w.value ∷ xs))
        (λ xs. fact_test keeps (w.value ∷ any_value ∷ xs)
        ∙ rw (fails_either (plain w.value)) (fails_either (eqb (length (w.value ∷ any_value ∷ xs)) 2))))
        none
        (λ x y xs. fact_test keeps (w.value ∷ x ∷ y ∷ xs) ∙ rw (ne_eqb (length (w.value ∷ x ∷ y ∷ xs)) 2 (λ e. omega arith)))))

-- the line is one
module _ (s : Stand) (w v : Word) (has : HasWord is_number s.rest Space w) (has_next : HasWord is_number w.rest.now LineEnd v) where
  numbers_are : HasNumbers s.rest (w.value ∷ v.value ∷ []) v.rest.now
  numbers_are =
      numbers_next is_number number_kind s.rest w has (v.value ∷ []) v.rest.now (numbers_last is_number number_kind w.rest.now v has_next)

  right : (keeps : Bool) → numbers_fit (fact_row keeps) (w.value ∷ v.value ∷ []) ≡ true
  unfolding all_plain
  right keeps = fact_test keeps (w.value ∷ v.value ∷ []) ∙ rw (number_plain has, number_plain has_next)

  pub fact_kept : s.count + 2 ≤ length s.tape → (next : List Due)
      → going_on next (keeping v.value (keeping w.value (passed v.rest.now s))) ≡ going_on (numbers (fact_row true) ∷ next) s
  fact_kept room =
      let two : s.count + 1 + 1 ≡ s.count + 2 = omega arith in
      row_read s (fact_row true) (w.value ∷ v.value ∷ []) v.rest.now numbers_are (right true) _ (s.count + 1 + 1) s.barred
      (rw two (rw add-one (taken s.tape (w.value ∷ v.value ∷ []) s.count room true))) (first_or_none s.barred)

  pub fact_passed : (next : List Due) → going_on next (passed v.rest.now s) ≡ going_on (numbers (fact_row false) ∷ next) s
  fact_passed =
      row_read s (fact_row false) (w.value ∷ v.value ∷ []) v.rest.now numbers_are (right false) s.tape s.count s.barred
      (sym (append-nil (take s.count s.tape))) (first_or_none s.barred)
