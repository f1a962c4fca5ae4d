-- Effects, and the heads of axioms, as the code reads them number by number. Each way to a return of a function that reads one has a law. Assumes nothing.
use Prim.Native.Nat.{ℕ, suc, ◌+◌, ◌*◌, ◌≤◌, ◌<◌}
use native.Mathlib.Omega.{arith}
use mathlib.Core.Path.{◌≡◌, refl, sym, ◌∙◌, ap, subst}
use mathlib.Core.Bool.{Bool, true, false, ◌&&◌, false≢true}
use mathlib.Core.List.{List, [], ◌∷◌, ◌++◌, append_assoc}
use lib.ListN.{length, set, length-append}
use lib.Seq.{sets}
use lib.Dec.{eqb, ltb}
use borrow.Author.Tests.{ne_eqb, eq-eqb, eqb-true, eqb-false}
use Rattle.access.proofs.StoreLaws.{stores_joined}
use Rattle.fields.specs.Between.Numbers.{any_value}
use Rattle.fields.specs.Between.Fields.{is_number, word_reads, plain, all_plain, plain_but_old, line_reads, line_numbers}
use Rattle.fields.specs.declared.word.Word.{Word}
use Rattle.fields.specs.declared.word.End.TheVariants.{Space, LineEnd}
use Rattle.fields.specs.Between.Reading.{HasWord, LacksWord, HasNumbers, LacksNumbers}
use Rattle.fields.proofs.LineLaws.{fails_either}
use Rattle.fields.proofs.NumberLaws.{numbers_next, numbers_last, no_numbers_next, no_numbers_ended, no_numbers_on, word_ahead}
use Rattle.fields.proofs.NumberLaws.{any_kind, no_other_kind, number_kind, sign_kind, number_plain}
use Rattle.refusal.specs.Place.{when, or_else}
use Rattle.form.specs.Between.Form.{Due, Effect, Head, numbers, numbers_fit}
use Rattle.form.specs.Between.Reading.{Stand, going_on}
use Rattle.form.specs.Between.Reading.Outcome.{Broken}
use Rattle.text_effects.specs.Between.Runs.{HasRun, AsksRun, HasChange}
use Rattle.form.proofs.StopLaws.{first_or_none}
use Rattle.number_rows.proofs.RowLaws.{number_ahead, taken, row_lacks, row_read}

-- the test of an effect, by what ends it
long_step : (x : ℕ) (l : List ℕ) → 2 ≤ length l → plain_but_old (x ∷ l) ≡ plain x && plain_but_old l
unfolding plain_but_old
long_step x [] h = absurd (omega arith)
long_step x (y ∷ []) h = absurd (omega arith)
long_step x (y ∷ z ∷ l) h = refl

plain_front : (xs zs : List ℕ) → all_plain xs ≡ true → 2 ≤ length zs → plain_but_old (xs ++ zs) ≡ plain_but_old zs
unfolding all_plain
plain_front [] zs e h = refl
plain_front (x ∷ xs) zs e h = by_case (plain_front xs zs) (plain x) refl
  where
    by_case : (all_plain xs ≡ true → 2 ≤ length zs → plain_but_old (xs ++ zs) ≡ plain_but_old zs) → (t : Bool) → plain x ≡ t
        → plain_but_old (x ∷ (xs ++ zs)) ≡ plain_but_old zs
    by_case rest true is = long_step x (xs ++ zs) (omega (arith, length-append xs zs)) ∙ rw is (rest (rw is at e) h)
    by_case rest false is = absurd (false≢true (rw is at e))

-- −1 with two numbers or more behind it is no old value
sign_inside : (xs ys : List ℕ) → 2 ≤ length ys → plain_but_old (xs ++ (any_value ∷ ys)) ≡ false
sign_inside [] ys h = long_step any_value ys h
sign_inside (x ∷ xs) ys h =
    long_step x (xs ++ (any_value ∷ ys)) (omega (arith, length-append xs (any_value ∷ ys))) ∙ rw (sign_inside xs ys h) (fails_either (plain x))

module _ (c : ℕ) where
  -- an effect whose conditions are there is one where a change ends it
  effect_tail : (xs zs : List ℕ) → plain c ≡ true → all_plain xs ≡ true → length xs ≡ 2 * c → numbers_fit Effect (c ∷ (xs ++ zs)) ≡ numbers_fit Head zs
  unfolding numbers_fit all_plain
  effect_tail xs zs is all many = by_case (eqb (length zs) 3) refl
    where
      long : length (c ∷ (xs ++ zs)) ≡ suc (2 * c + length zs)
      long = omega (arith, length-append xs zs)

      by_case : (t : Bool) → eqb (length zs) 3 ≡ t
          → (eqb (length (c ∷ (xs ++ zs))) (2 * c + 4) && plain_but_old (c ∷ (xs ++ zs))) ≡ (eqb (length zs) 3 && plain_but_old zs)
      by_case true e =
          let three : length zs ≡ 3 = eqb-true (length zs) 3 e in
          rw (eq-eqb (length (c ∷ (xs ++ zs))) (2 * c + 4) (omega (arith, long)), e) (plain_front (c ∷ xs) zs (rw is all) (omega arith))
      by_case false e = rw (ne_eqb (length (c ∷ (xs ++ zs))) (2 * c + 4) (λ f. eqb-false (length zs) 3 e (omega (arith, long))), e)

  -- it asks for as many numbers as it has conditions, twice
  effect_asks : AsksRun (2 * c) (λ zs. numbers_fit Effect (c ∷ zs))
  unfolding numbers_fit
  effect_asks =
      record {
        short = λ xs v few. rw (ne_eqb (length (c ∷ (xs ++ (v ∷ [])))) (2 * c + 4) (λ e. omega (arith, length-append xs (v ∷ []))));
        sign = signed;
      }
    where
      signed : (xs ys : List ℕ) → length xs < 2 * c
          → (eqb (length (c ∷ (xs ++ (any_value ∷ ys)))) (2 * c + 4) && plain_but_old (c ∷ (xs ++ (any_value ∷ ys)))) ≡ false
      signed xs ys few = by_case (eqb (length (c ∷ (xs ++ (any_value ∷ ys)))) (2 * c + 4)) refl
        where
          by_case : (t : Bool) → eqb (length (c ∷ (xs ++ (any_value ∷ ys)))) (2 * c + 4) ≡ t → (t && plain_but_old (c ∷ (xs ++ (any_value ∷ ys)))) ≡ false
          by_case true e =
              let whole : length (c ∷ (xs ++ (any_value ∷ ys))) ≡ 2 * c + 4 = eqb-true (length (c ∷ (xs ++ (any_value ∷ ys)))) (2 * c + 4) e in
              sign_inside (c ∷ xs) ys (omega (arith, length-append xs (any_value ∷ ys)))
          by_case false e = refl

-- numbers that are read one after the other, each with a space behind it
plain_more : (xs : List ℕ) (v : ℕ) → all_plain xs ≡ true → plain v ≡ true → all_plain (xs ++ (v ∷ [])) ≡ true
unfolding all_plain
plain_more [] v all is = rw is
plain_more (x ∷ xs) v all is = by_case (plain_more xs v) (plain x) refl
  where
    by_case : (all_plain xs ≡ true → plain v ≡ true → all_plain (xs ++ (v ∷ [])) ≡ true) → (t : Bool) → plain x ≡ t
        → (plain x && all_plain (xs ++ (v ∷ []))) ≡ true
    by_case rest true e = rw e (rest (rw e at all) is)
    by_case rest false e = absurd (false≢true (rw e at all))

pub run_begins : (bytes tape : List ℕ) (from : ℕ) → HasRun bytes tape from 0 bytes tape
unfolding all_plain
run_begins bytes tape from =
    record {
      xs = [];
      many = refl;
      all_are_plain = refl;
      stored = refl;
      ahead = omega arith;
      has = λ ys behind has. has;
      lacks = λ test lacks. lacks;
    }

module _ {bytes tape : List ℕ} {from k : ℕ} {rest tape' : List ℕ} (run : HasRun bytes tape from k rest tape') where
  pub run_more : (w : Word) → HasWord is_number rest Space w → (tape'' : List ℕ) → tape'' ≡ set tape' (from + k) w.value
      → HasRun bytes tape from (k + 1) w.rest.now tape''
  run_more w gap tape'' put =
      let v : ℕ = w.value in
      let place : from + k ≡ from + length run.xs = omega (arith, run.many) in
      record {
        xs = run.xs ++ (v ∷ []);
        many = omega (arith, length-append run.xs (v ∷ []), run.many);
        all_are_plain = plain_more run.xs v run.all_are_plain (number_plain gap);
        stored = put ∙ rw (run.stored, place) (stores_joined tape run.xs (v ∷ []) from);
        ahead = omega (arith, run.ahead, number_ahead gap);
        has = λ ys behind has.
            subst (λ zs. HasNumbers bytes zs behind) (sym (append_assoc run.xs (v ∷ []) ys))
            (run.has (v ∷ ys) behind (numbers_next is_number number_kind rest w gap ys behind has));
        lacks = λ test lacks.
            run.lacks test (
            no_numbers_next is_number number_kind rest w gap (λ zs. test (run.xs ++ zs))
            (λ line next others cut.
            ap (λ zs. line_reads line && test zs) (sym (append_assoc run.xs (v ∷ []) (line_numbers line))) ∙ lacks line next others cut)
            );
      }

  pub run_missed : (n : ℕ) → k < n → LacksWord is_number rest Space → (test : List ℕ → Bool) → AsksRun n test → LacksNumbers test bytes
  run_missed n more none test asks =
      let few : length run.xs < n = omega (arith, run.many) in
      run.lacks test (
      no_numbers_ended is_number number_kind rest (λ ys. test (run.xs ++ ys))
      (sign_kind (λ ys. test (run.xs ++ ys)) (λ ys. asks.sign run.xs ys few)) none (λ v. asks.short run.xs v few)
      )

-- what ends an effect
head_sign : (xs : List ℕ) → numbers_fit Head (any_value ∷ xs) ≡ false
unfolding numbers_fit plain_but_old
head_sign [] = refl
head_sign (x ∷ []) = refl
head_sign (x ∷ y ∷ xs) = fails_either (eqb (length (any_value ∷ x ∷ y ∷ xs)) 3)

head_new_sign : (v o : ℕ) (xs : List ℕ) → numbers_fit Head (v ∷ o ∷ any_value ∷ xs) ≡ false
unfolding numbers_fit plain_but_old
head_new_sign v o [] = fails_either (plain v)
head_new_sign v o (x ∷ xs) = rw (ne_eqb (length (v ∷ o ∷ any_value ∷ x ∷ xs)) 3 (λ e. omega arith))

module _ (bytes : List ℕ) where
  pub change_ended : LacksWord is_number bytes Space → LacksNumbers (numbers_fit Head) bytes
  unfolding numbers_fit
  change_ended none = no_numbers_ended is_number number_kind bytes (numbers_fit Head) (sign_kind (numbers_fit Head) head_sign) none (λ v. refl)

  module _ (w : Word) (gap : HasWord is_number bytes Space w) where
    pub change_old_ended : LacksWord word_reads w.rest.now Space → LacksNumbers (numbers_fit Head) bytes
    unfolding numbers_fit
    change_old_ended none =
        no_numbers_next is_number number_kind bytes w gap (numbers_fit Head)
        (no_numbers_ended word_reads any_kind w.rest.now (λ xs. numbers_fit Head (w.value ∷ xs))
        (no_other_kind (λ xs. numbers_fit Head (w.value ∷ xs))) none (λ v. refl))

    module _ (o : Word) (gap_old : HasWord word_reads w.rest.now Space o) where
      pub change_on : LacksWord is_number o.rest.now LineEnd → LacksNumbers (numbers_fit Head) bytes
      unfolding numbers_fit
      change_on none =
          no_numbers_next is_number number_kind bytes w gap (numbers_fit Head)
          (no_numbers_next word_reads any_kind w.rest.now o gap_old (λ xs. numbers_fit Head (w.value ∷ xs))
          (no_numbers_on is_number number_kind o.rest.now (λ xs. numbers_fit Head (w.value ∷ o.value ∷ xs))
          (sign_kind (λ xs. numbers_fit Head (w.value ∷ o.value ∷ xs)) (head_new_sign w.value o.value))
          none (λ x y xs. rw (ne_eqb (length (w.value ∷ o.value ∷ x ∷ y ∷ xs)) 3 (λ e. omega arith)))))

      module _ (n : Word) (end : HasWord is_number o.rest.now LineEnd n) where
        pub change_ahead : length n.rest.now + 6 ≤ length bytes
        change_ahead = omega (arith, number_ahead gap, word_ahead word_reads any_kind w.rest.now Space o gap_old, number_ahead end)

        pub change_read : (tape tape' tape'' tape''' : List ℕ) (from : ℕ) → tape' ≡ set tape from w.value → tape'' ≡ set tape' (from + 1) o.value
            → tape''' ≡ set tape'' (from + 2) n.value → HasChange bytes tape from n.rest.now tape'''
        unfolding numbers_fit plain_but_old
        change_read tape tape' tape'' tape''' from first second third =
            let one : from + 1 ≡ suc from = omega arith in
            let two : from + 2 ≡ suc (suc from) = omega arith in
            record {
              variable = w.value;
              old = o.value;
              new = n.value;
              fits = rw (number_plain gap, number_plain end);
              stored = third ∙ rw (second, first, one, two);
              ahead = change_ahead;
              has =
                  numbers_next is_number number_kind bytes w gap (o.value ∷ n.value ∷ []) n.rest.now
                  (numbers_next word_reads any_kind w.rest.now o gap_old (n.value ∷ []) n.rest.now
                  (numbers_last is_number number_kind o.rest.now n end));
            }

-- the head of an axiom: what `read_head` returns
module _ (s : Stand) where
  pub head_lacks : LacksNumbers (numbers_fit Head) s.rest → (ds : List Due) → going_on (numbers Head ∷ ds) s ≡ Broken (s.line + 1)
  head_lacks = row_lacks s Head

  pub head_read : 2 * s.count + length s.rest ≤ 2 * length s.tape → (rest tape : List ℕ) → HasChange s.rest s.tape s.count rest tape → (next : List Due)
      → going_on next (record { rest = rest; tape = tape; tape_at = s.tape_at; line = s.line + 1; count = s.count; barred = s.barred }) ≡ going_on (numbers Head ∷ next) s
  head_read room rest tape change =
      let xs : List ℕ = change.variable ∷ change.old ∷ change.new ∷ [] in
      let fit : s.count + length xs ≤ length s.tape = omega (arith, change.ahead) in
      let none : s.count + 0 ≡ s.count = omega arith in
      row_read s Head xs rest change.has change.fits tape s.count s.barred (rw change.stored (rw none at (taken s.tape xs s.count fit false)))
      (first_or_none s.barred)

-- an effect: what `read_effect` returns
effect_sign : (xs : List ℕ) → numbers_fit Effect (any_value ∷ xs) ≡ false
unfolding numbers_fit plain_but_old
effect_sign [] = fails_either (eqb 1 (2 * any_value + 4))
effect_sign (x ∷ []) = refl
effect_sign (x ∷ y ∷ xs) = fails_either (eqb (length (any_value ∷ x ∷ y ∷ xs)) (2 * any_value + 4))

module _ (s : Stand) where
  effect_lacks : LacksNumbers (numbers_fit Effect) s.rest → (ds : List Due) → going_on (numbers Effect ∷ ds) s ≡ Broken (s.line + 1)
  effect_lacks = row_lacks s Effect

  pub effect_ended : LacksWord is_number s.rest Space → (ds : List Due) → going_on (numbers Effect ∷ ds) s ≡ Broken (s.line + 1)
  unfolding numbers_fit
  effect_ended none =
      effect_lacks
      (no_numbers_ended is_number number_kind s.rest (numbers_fit Effect) (sign_kind (numbers_fit Effect) effect_sign) none
      (λ v. rw (ne_eqb 1 (2 * v + 4) (λ e. omega arith))))

  module _ (w : Word) (gap : HasWord is_number s.rest Space w) where
    pub effect_short : ((test : List ℕ → Bool) → AsksRun (2 * w.value) test → LacksNumbers test w.rest.now) → (ds : List Due)
        → going_on (numbers Effect ∷ ds) s ≡ Broken (s.line + 1)
    effect_short missed =
        effect_lacks
        (no_numbers_next is_number number_kind s.rest w gap (numbers_fit Effect) (missed (λ zs. numbers_fit Effect (w.value ∷ zs)) (effect_asks w.value)))

    module _ (tape₁ tape₂ rest : List ℕ) (conditions : HasRun w.rest.now tape₁ (s.count + 1) (2 * w.value) rest tape₂) where
      by_tail : (zs : List ℕ) → numbers_fit Effect (w.value ∷ (conditions.xs ++ zs)) ≡ numbers_fit Head zs
      by_tail zs = effect_tail w.value conditions.xs zs (number_plain gap) conditions.all_are_plain conditions.many

      pub effect_cut : LacksNumbers (numbers_fit Head) rest → (ds : List Due) → going_on (numbers Effect ∷ ds) s ≡ Broken (s.line + 1)
      effect_cut lacks =
          effect_lacks
          (no_numbers_next is_number number_kind s.rest w gap (numbers_fit Effect)
          (conditions.lacks (λ zs. numbers_fit Effect (w.value ∷ zs))
          (λ line next others cut. ap (λ t. line_reads line && t) (by_tail (line_numbers line)) ∙ lacks line next others cut)))

      module _ (last tape₃ : List ℕ) (change : HasChange rest tape₂ (s.count + 1 + 2 * w.value) last tape₃) where
        pub effect_ahead : length last + (8 + 4 * w.value) ≤ length s.rest
        effect_ahead = omega (arith, number_ahead gap, conditions.ahead, change.ahead)

        pub effect_read : 2 * s.count + length s.rest ≤ 2 * length s.tape → tape₁ ≡ set s.tape s.count w.value → (next : List Due)
            → going_on next
            (record {
              rest = last;
              tape = tape₃;
              tape_at = s.tape_at;
              line = s.line + 1;
              count = s.count + 1 + 2 * w.value + 3;
              barred = or_else s.barred (when (ltb 0 w.value) (s.line + 1));
            })
            ≡ going_on (numbers Effect ∷ next) s
        effect_read room put =
            let zs : List ℕ = change.variable ∷ change.old ∷ change.new ∷ [] in
            let xs : List ℕ = w.value ∷ (conditions.xs ++ zs) in
            let long : length xs ≡ 2 * w.value + 4 = omega (arith, length-append conditions.xs zs, conditions.many) in
            let fit : s.count + length xs ≤ length s.tape = omega (arith, effect_ahead) in
            let place : s.count + 1 + 2 * w.value ≡ s.count + 1 + length conditions.xs = omega (arith, conditions.many) in
            let next : s.count + 1 ≡ suc s.count = omega arith in
            let joined : sets tape₂ (s.count + 1 + 2 * w.value) zs ≡ sets tape₁ (s.count + 1) (conditions.xs ++ zs) =
            ap (λ l. sets l (s.count + 1 + 2 * w.value) zs) conditions.stored
            ∙ ap (λ i. sets (sets tape₁ (s.count + 1) conditions.xs) i zs) place
            ∙ stores_joined tape₁ conditions.xs zs (s.count + 1) in
            let all_stored : sets tape₁ (s.count + 1) (conditions.xs ++ zs) ≡ sets s.tape s.count xs =
            ap (λ i. sets tape₁ i (conditions.xs ++ zs)) next ∙ ap (λ l. sets l (suc s.count) (conditions.xs ++ zs)) put in
            let stored : tape₃ ≡ sets s.tape s.count xs = change.stored ∙ joined ∙ all_stored in
            let counted : s.count + 1 + 2 * w.value + 3 ≡ s.count + length xs = omega arith in
            row_read s Effect xs last
            (numbers_next is_number number_kind s.rest w gap (conditions.xs ++ zs) last (conditions.has zs last change.has))
            (by_tail zs ∙ change.fits) tape₃ (s.count + 1 + 2 * w.value + 3) (or_else s.barred (when (ltb 0 w.value) (s.line + 1)))
            (rw (stored, counted) (taken s.tape xs s.count fit true)) refl
