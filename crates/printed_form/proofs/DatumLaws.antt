-- A line that is due and what it holds: it is what it must be exactly where it holds a datum, which it tells, with the
-- lines that it adds, its numbers, and whether no sheet can say it. Assumes nothing.
use Prim.Native.Nat.{ℕ, zero, suc, ◌+◌, ◌*◌, ◌≤◌, ◌<◌, min}
use native.Mathlib.Omega.{arith}
use mathlib.Core.Path.{◌≡◌, refl, sym, ◌∙◌, ap}
use mathlib.Core.Bool.{Bool, true, false, not, cond, ◌&&◌, false≢true}
use mathlib.Core.Option.{Option, none, some}
use mathlib.Core.List.{List, [], ◌∷◌, ◌++◌, map, flatten}
use lib.ListN.{length, get_or, drop}
use lib.Dec.{eqb, ltb}
use borrow.Author.Tests.{ne_eqb, eq-eqb, eqb-true, lt-ltb, ltb-true}
use Rattle.sas.specs.Task.{Fact, Assignment}
use Rattle.lines.proofs.NumeralTheorem.{both}
use Rattle.fields.specs.Between.Numbers.{most_number, any_value}
use Rattle.fields.specs.Between.Fields.{plain, all_plain, plain_but_old, line_reads, line_numbers}
use Rattle.fields.proofs.ClassTheorem.{same_equal}
use Rattle.form.specs.Between.Form as form
use Rattle.form.proofs.KeywordLaws.{same_self}
use Rattle.planner.specs.Text.{Change, Effect}
use Rattle.planner.specs.Printed.{numbers, fact_numbers, change_numbers, effect_numbers}
use Rattle.printed_form.specs.Between.Datum.{sat, RowData, row_numbers, has_layer, count_barred, row_barred, Datum, line, keeps}
use Rattle.printed_form.proofs.SignLaws.{Any, numbers_read, numbers_told, numbers_once, line_is, numbers_long}

-- each line of numbers has some
row_any : (row : form.Row) (x : RowData row) → Any (row_numbers row x)
row_any form.Metric x = tt
row_any form.Layer x = tt
row_any form.Value x = tt
row_any form.Fact x = tt
row_any form.PassedFact x = tt
row_any form.Effect x = tt
row_any form.Head x = tt
row_any (form.Count what) x = tt

-- a number is told from −1
sat_plain : (n : ℕ) → plain (sat (some n)) ≡ true
sat_plain n = rw (ne_eqb (min most_number n) any_value (λ e. omega arith))

plain_some : (x : Option ℕ) → plain (sat x) ≡ true → (n : ℕ) × (some n ≡ x)
plain_some none e = absurd (false≢true e)
plain_some (some n) e = (n, refl)

-- the numbers of an effect, but for how many conditions it has
abbrev tail_numbers : Assignment → Change → List (Option ℕ)
tail_numbers cs c = flatten (map fact_numbers cs) ++ change_numbers c

tail_length : (cs : Assignment) (c : Change) → length (tail_numbers cs c) ≡ 2 * length cs + 3
unfolding flatten
tail_length [] c = refl
tail_length (f ∷ cs) c = let rest = tail_length cs c in omega arith

tail_plain : (cs : Assignment) (c : Change) → plain_but_old (map sat (tail_numbers cs c)) ≡ true
unfolding flatten plain_but_old
tail_plain [] c = rw (sat_plain c.variable, sat_plain c.new)
tail_plain (f ∷ []) c = rw (sat_plain f.variable, sat_plain f.value, sat_plain c.variable, sat_plain c.new)
tail_plain (f ∷ g ∷ cs) c = rw (sat_plain f.variable, sat_plain f.value) (tail_plain (g ∷ cs) c)

counted_plain : (n : ℕ) (cs : Assignment) (c : Change) → plain_but_old (map sat (some n ∷ tail_numbers cs c)) ≡ true
unfolding flatten plain_but_old
counted_plain n [] c = rw (sat_plain n) (tail_plain [] c)
counted_plain n (f ∷ cs) c = rw (sat_plain n) (tail_plain (f ∷ cs) c)

-- a number that is below every limit is read as it is
pub sat_small : (n : ℕ) → n ≤ most_number → sat (some n) ≡ n
sat_small n few = omega arith

sat_length : (xs : List (Option ℕ)) → length (map sat xs) ≡ length xs
sat_length [] = refl
sat_length (x ∷ xs) = ap suc (sat_length xs)

effect_fits : (e : Effect) → sat (some (length e.conditions)) ≡ length e.conditions → form.numbers_fit form.Effect (map sat (effect_numbers e)) ≡ true
unfolding form.numbers_fit
effect_fits e exact =
    let xs : List (Option ℕ) = tail_numbers e.conditions e.change in
    let long : suc (length (map sat xs)) ≡ 2 * sat (some (length e.conditions)) + 4 =
    ap suc (sat_length xs ∙ tail_length e.conditions e.change) ∙ omega arith in
    rw (eq-eqb (suc (length (map sat xs))) (2 * sat (some (length e.conditions)) + 4) long) (counted_plain (length e.conditions) e.conditions e.change)

-- what a line of numbers holds makes its numbers fit
row_fits : (row : form.Row) (x : RowData row) → length (row_numbers row x) < most_number → form.numbers_fit row (map sat (row_numbers row x)) ≡ true
unfolding form.numbers_fit all_plain plain_but_old
row_fits form.Metric true few = refl
row_fits form.Metric false few = refl
row_fits form.Layer x few = refl
row_fits form.Value n few = rw (sat_plain n)
row_fits form.Fact f few = rw (sat_plain f.variable, sat_plain f.value)
row_fits form.PassedFact f few = rw (sat_plain f.variable, sat_plain f.value)
row_fits form.Effect e few =
    let long : length (tail_numbers e.conditions e.change) ≡ 2 * length e.conditions + 3 = tail_length e.conditions e.change in
    let exact : sat (some (length e.conditions)) ≡ length e.conditions = sat_small (length e.conditions) (omega arith) in
    effect_fits e exact
row_fits form.Head c few = rw (sat_plain c.variable, sat_plain c.new)
row_fits (form.Count what) n few = rw (sat_plain n)

-- and numbers that fit make up what such a line holds
one_number : (xs : List (Option ℕ)) → eqb (length (map sat xs)) 1 ≡ true → (x : Option ℕ) × (x ∷ [] ≡ xs)
one_number [] e = absurd (false≢true e)
one_number (x ∷ []) e = (x, refl)
one_number (x ∷ y ∷ xs) e = absurd (false≢true (sym (ne_eqb (length (map sat (x ∷ y ∷ xs))) 1 (λ z. omega arith)) ∙ e))

-- a number that is none other than 0 or 1
metric_of : (x : Option ℕ) → ltb (sat x) 2 ≡ true → (b : Bool) × (some (cond b 1 0) ≡ x)
metric_of none e = absurd (false≢true e)
metric_of (some zero) e = (false, refl)
metric_of (some (suc zero)) e = (true, refl)
metric_of (some (suc (suc n))) e = absurd (omega (arith, ltb-true (min most_number (suc (suc n))) 2 e))

plain_one : (xs : List (Option ℕ)) → (eqb (length (map sat xs)) 1 && all_plain (map sat xs)) ≡ true → (n : ℕ) × (some n ∷ [] ≡ xs)
unfolding all_plain
plain_one xs e = by_case (one_number xs (both (eqb (length (map sat xs)) 1) (all_plain (map sat xs)) e).0) (both (eqb (length (map sat xs)) 1) (all_plain (map sat xs)) e).1
  where
    by_case : (x : Option ℕ) × (x ∷ [] ≡ xs) → all_plain (map sat xs) ≡ true → (n : ℕ) × (some n ∷ [] ≡ xs)
    by_case (x, is) all =
        let (n, such) = plain_some x (both (plain (sat x)) true (ap (λ ys. all_plain (map sat ys)) is ∙ all)).0 in
        (n, ap (λ y. y ∷ []) such ∙ is)

plain_two : (xs : List (Option ℕ)) → (eqb (length (map sat xs)) 2 && all_plain (map sat xs)) ≡ true → (f : Fact) × (fact_numbers f ≡ xs)
unfolding all_plain
plain_two [] e = absurd (false≢true e)
plain_two (x ∷ []) e = absurd (false≢true e)
plain_two (x ∷ y ∷ []) e =
    let (first, rest) = both (plain (sat x)) (plain (sat y) && true) e in
    let (n, is) = plain_some x first in
    let (m, are) = plain_some y (both (plain (sat y)) true rest).0 in
    (record { variable = n; value = m }, two is are)
  where
    two : {a b c d : Option ℕ} → a ≡ c → b ≡ d → a ∷ b ∷ [] ≡ c ∷ d ∷ []
    two p q = cc
plain_two (x ∷ y ∷ z ∷ xs) e =
    absurd (false≢true (sym (ne_eqb (length (map sat (x ∷ y ∷ z ∷ xs))) 2 (λ w. omega arith)) ∙ (both _ _ e).0))

-- `variable old new`
change_of : (x y z : Option ℕ) → plain_but_old (map sat (x ∷ y ∷ z ∷ [])) ≡ true → (c : Change) × (change_numbers c ≡ x ∷ y ∷ z ∷ [])
unfolding plain_but_old
change_of x y z e =
    let (first, last) = both (plain (sat x)) (plain (sat z)) e in
    let (n, is) = plain_some x first in
    let (m, are) = plain_some z last in
    (record { variable = n; old = y; new = m }, three is are)
  where
    three : {a b c d : Option ℕ} → a ≡ c → b ≡ d → a ∷ y ∷ b ∷ [] ≡ c ∷ y ∷ d ∷ []
    three p q = cc

-- conditions in front of it
record Tail (k : ℕ) (ys : List (Option ℕ)) : Type 0 where
  pub conditions : Assignment
  pub change : Change
  pub many : length conditions ≡ k
  pub are : tail_numbers conditions change ≡ ys

tail_more : (k : ℕ) (x y : Option ℕ) (ys : List (Option ℕ)) → plain (sat x) ≡ true → plain (sat y) ≡ true → Tail k ys → Tail (suc k) (x ∷ y ∷ ys)
unfolding flatten
tail_more k x y ys first second rest =
    let (n, is) = plain_some x first in
    let (m, also) = plain_some y second in
    record {
      conditions = record { variable = n; value = m } ∷ rest.conditions;
      change = rest.change;
      many = ap suc rest.many;
      are = two is also rest.are;
    }
  where
    two : {a b c d : Option ℕ} {vs ws : List (Option ℕ)} → a ≡ c → b ≡ d → vs ≡ ws → a ∷ b ∷ vs ≡ c ∷ d ∷ ws
    two p q r = cc

tail_none : {ys : List (Option ℕ)} (c : Change) → change_numbers c ≡ ys → Tail 0 ys
unfolding flatten
tail_none c is = record { conditions = []; change = c; many = refl; are = is }

tail_zero : (ys : List (Option ℕ)) → length ys ≡ 3 → plain_but_old (map sat ys) ≡ true → Tail 0 ys
tail_zero [] long fit = absurd (omega arith)
tail_zero (x ∷ []) long fit = absurd (omega arith)
tail_zero (x ∷ y ∷ []) long fit = absurd (omega arith)
tail_zero (x ∷ y ∷ z ∷ []) long fit = let (c, is) = change_of x y z fit in tail_none c is
tail_zero (x ∷ y ∷ z ∷ u ∷ ys) long fit = absurd (omega arith)

abbrev Tails : ℕ → Type 0
Tails k = (ys : List (Option ℕ)) → length ys ≡ 2 * k + 3 → plain_but_old (map sat ys) ≡ true → Tail k ys

first_plain : (x y z : Option ℕ) (ys : List (Option ℕ)) → plain_but_old (map sat (x ∷ y ∷ z ∷ ys)) ≡ true
    → (plain (sat x) ≡ true) × (plain_but_old (map sat (y ∷ z ∷ ys)) ≡ true)
unfolding plain_but_old
first_plain x y z ys fit = both (plain (sat x)) (plain_but_old (map sat (y ∷ z ∷ ys))) fit

tail_five : (k : ℕ) → Tails k → (x y z u : Option ℕ) (ys : List (Option ℕ)) → length (x ∷ y ∷ z ∷ u ∷ ys) ≡ 2 * suc k + 3
    → plain_but_old (map sat (x ∷ y ∷ z ∷ u ∷ ys)) ≡ true → Tail (suc k) (x ∷ y ∷ z ∷ u ∷ ys)
tail_five k rest x y z u ys long fit =
    let (first, others) = first_plain x y z (u ∷ ys) fit in
    let (second, behind) = first_plain y z u ys others in
    tail_more k x y (z ∷ u ∷ ys) first second (rest (z ∷ u ∷ ys) (omega arith) behind)

tail_suc : (k : ℕ) → Tails k → (ys : List (Option ℕ)) → length ys ≡ 2 * suc k + 3 → plain_but_old (map sat ys) ≡ true → Tail (suc k) ys
tail_suc k rest [] long fit = absurd (omega arith)
tail_suc k rest (x ∷ []) long fit = absurd (omega arith)
tail_suc k rest (x ∷ y ∷ []) long fit = absurd (omega arith)
tail_suc k rest (x ∷ y ∷ z ∷ []) long fit = absurd (omega arith)
tail_suc k rest (x ∷ y ∷ z ∷ u ∷ ys) long fit = tail_five k rest x y z u ys long fit

tail_of : (k : ℕ) → Tails k
tail_of zero ys long fit = tail_zero ys (omega arith) fit
tail_of (suc k) ys long fit = tail_suc k (tail_of k) ys long fit

effect_whole : (x : Option ℕ) (n : ℕ) (ys : List (Option ℕ)) → some n ≡ x → Tail n ys → (e : Effect) × (effect_numbers e ≡ x ∷ ys)
effect_whole x n ys is rest = (
  record { conditions = rest.conditions; change = rest.change },
  ap (λ k. some k ∷ tail_numbers rest.conditions rest.change) rest.many ∙ ap (λ zs. some n ∷ zs) rest.are ∙ ap (λ y. y ∷ ys) is,
)

effect_of : (xs : List (Option ℕ)) → length xs < most_number → form.numbers_fit form.Effect (map sat xs) ≡ true → (e : Effect) × (effect_numbers e ≡ xs)
unfolding form.numbers_fit plain_but_old
effect_of [] few fit = absurd (false≢true fit)
effect_of (x ∷ []) few fit =
    let long = eqb-true (length (map sat (x ∷ []))) (2 * sat x + 4) (both _ _ fit).0 in absurd (omega arith)
effect_of (x ∷ y ∷ []) few fit =
    let long = eqb-true (length (map sat (x ∷ y ∷ []))) (2 * sat x + 4) (both _ _ fit).0 in absurd (omega arith)
effect_of (x ∷ y ∷ z ∷ xs) few fit =
    let (counts, plains) = both (eqb (length (map sat (x ∷ y ∷ z ∷ xs))) (2 * sat x + 4)) (plain_but_old (map sat (x ∷ y ∷ z ∷ xs))) fit in
    let (first, others) = both (plain (sat x)) (plain_but_old (map sat (y ∷ z ∷ xs))) plains in
    let (n, is) = plain_some x first in
    let long : length (map sat (x ∷ y ∷ z ∷ xs)) ≡ 2 * sat x + 4 = eqb-true (length (map sat (x ∷ y ∷ z ∷ xs))) (2 * sat x + 4) counts in
    let all : length (map sat (x ∷ y ∷ z ∷ xs)) ≡ length (x ∷ y ∷ z ∷ xs) = sat_length (x ∷ y ∷ z ∷ xs) in
    let told : sat x ≡ min most_number n = ap sat (sym is) in
    let rest : Tail n (y ∷ z ∷ xs) = tail_of n (y ∷ z ∷ xs) (omega arith) others in
    effect_whole x n (y ∷ z ∷ xs) is rest

head_of : (xs : List (Option ℕ)) → form.numbers_fit form.Head (map sat xs) ≡ true → (c : Change) × (change_numbers c ≡ xs)
unfolding form.numbers_fit
head_of [] fit = absurd (false≢true fit)
head_of (x ∷ []) fit = absurd (false≢true fit)
head_of (x ∷ y ∷ []) fit = absurd (false≢true fit)
head_of (x ∷ y ∷ z ∷ []) fit = change_of x y z fit
head_of (x ∷ y ∷ z ∷ u ∷ xs) fit =
    absurd (false≢true (sym (ne_eqb (length (map sat (x ∷ y ∷ z ∷ u ∷ xs))) 3 (λ w. omega arith)) ∙ (both _ _ fit).0))

metric_row : (xs : List (Option ℕ)) → form.numbers_fit form.Metric (map sat xs) ≡ true → (b : Bool) × (some (cond b 1 0) ∷ [] ≡ xs)
unfolding form.numbers_fit
metric_row xs fit = by_case (one_number xs (both _ _ fit).0) (both (eqb (length (map sat xs)) 1) _ fit).1
  where
    by_case : (x : Option ℕ) × (x ∷ [] ≡ xs) → ltb (form.first_number (map sat xs)) 2 ≡ true → (b : Bool) × (some (cond b 1 0) ∷ [] ≡ xs)
    by_case (x, is) low =
        let (b, such) = metric_of x (ap (λ ys. ltb (form.first_number (map sat ys)) 2) is ∙ low) in (b, ap (λ y. y ∷ []) such ∙ is)

row_of : (row : form.Row) (xs : List (Option ℕ)) → length xs < most_number → form.numbers_fit row (map sat xs) ≡ true
    → (x : RowData row) × (row_numbers row x ≡ xs)
unfolding form.numbers_fit
row_of form.Metric xs few fit = metric_row xs fit
row_of form.Layer xs few fit = one_number xs fit
row_of form.Value xs few fit = plain_one xs fit
row_of form.Fact xs few fit = plain_two xs fit
row_of form.PassedFact xs few fit = plain_two xs fit
row_of form.Effect xs few fit = effect_of xs few fit
row_of form.Head xs few fit = head_of xs fit
row_of (form.Count what) xs few fit = plain_one xs fit

-- the numbers of a line tell what it holds
abbrev exact : Option ℕ → ℕ
exact none = 0
exact (some n) = n

abbrev nth : ℕ → List (Option ℕ) → Option ℕ
nth i xs = get_or xs i none

abbrev fact_from : List (Option ℕ) → Fact
fact_from xs = record { variable = exact (nth 0 xs); value = exact (nth 1 xs) }

abbrev change_from : List (Option ℕ) → Change
change_from xs = record { variable = exact (nth 0 xs); old = nth 1 xs; new = exact (nth 2 xs) }

facts_from : ℕ → List (Option ℕ) → Assignment
facts_from zero xs = []
facts_from (suc k) xs = fact_from xs ∷ facts_from k (drop 2 xs)

change_behind : ℕ → List (Option ℕ) → Change
change_behind zero xs = change_from xs
change_behind (suc k) xs = change_behind k (drop 2 xs)

facts_again : (cs : Assignment) (c : Change) → facts_from (length cs) (tail_numbers cs c) ≡ cs
unfolding facts_from flatten
facts_again [] c = refl
facts_again (f ∷ cs) c = ap (λ gs. f ∷ gs) (facts_again cs c)

change_again : (cs : Assignment) (c : Change) → change_behind (length cs) (tail_numbers cs c) ≡ c
unfolding change_behind flatten
change_again [] c = refl
change_again (f ∷ cs) c = change_again cs c

abbrev effect_from : List (Option ℕ) → Effect
effect_from xs =
    record { conditions = facts_from (exact (nth 0 xs)) (drop 1 xs); change = change_behind (exact (nth 0 xs)) (drop 1 xs) }

effect_again : (e : Effect) → effect_from (effect_numbers e) ≡ e
effect_again e =
    let xs : List (Option ℕ) = tail_numbers e.conditions e.change in
    let k : ℕ = length e.conditions in
    ap (λ cs. record { conditions = cs; change = change_behind k xs }) (facts_again e.conditions e.change)
    ∙ ap (λ c. record { conditions = e.conditions; change = c }) (change_again e.conditions e.change)

row_once : (row : form.Row) (x y : RowData row) → row_numbers row x ≡ row_numbers row y → x ≡ y
row_once form.Metric true true e = refl
row_once form.Metric true false e = absurd (let z : ◌≡◌ {A = ℕ} 1 0 = ap (λ xs. exact (nth 0 xs)) e in omega arith)
row_once form.Metric false true e = absurd (let z : ◌≡◌ {A = ℕ} 0 1 = ap (λ xs. exact (nth 0 xs)) e in omega arith)
row_once form.Metric false false e = refl
row_once form.Layer x y e = ap (nth 0) e
row_once form.Value n m e = ap (λ xs. exact (nth 0 xs)) e
row_once form.Fact f g e = ap fact_from e
row_once form.PassedFact f g e = ap fact_from e
row_once form.Effect x y e = sym (effect_again x) ∙ ap effect_from e ∙ effect_again y
row_once form.Head c d e = ap change_from e
row_once (form.Count what) n m e = ap (λ xs. exact (nth 0 xs)) e

-- a line tells its datum
pub datum_once : (d : form.Due) (x y : Datum d) → (line d x).bytes ≡ (line d y).bytes → x ≡ y
datum_once (form.keyword k) x y e = refl
datum_once form.name n m e = e
datum_once (form.numbers row) x y e =
    row_once row x y (numbers_once (row_numbers row x) (row_numbers row y) (row_any row x) (row_any row y) e)

-- a line that holds one is what it must be
pub datum_fits : (d : form.Due) (x : Datum d) → length (line d x).bytes < most_number → form.fits d (line d x).bytes ≡ true
unfolding form.fits
datum_fits (form.keyword k) x few = same_self k
datum_fits form.name x few = refl
datum_fits (form.numbers row) x few =
    let xs : List (Option ℕ) = row_numbers row x in
    let short : length xs < most_number = omega (arith, numbers_long xs) in
    rw (numbers_read xs (row_any row x)) (ap (form.numbers_fit row) (numbers_told xs (row_any row x)) ∙ row_fits row x short)

-- and a line that is what it must be holds one
pub datum_of : (d : form.Due) (l : List ℕ) → length l < most_number → form.fits d l ≡ true → (x : Datum d) × ((line d x).bytes ≡ l)
unfolding form.fits
datum_of (form.keyword k) l few fit = (tt, sym (same_equal l k fit))
datum_of form.name l few fit = (l, refl)
datum_of (form.numbers row) l few fit =
    let (reads, fits) = both (line_reads l) (form.numbers_fit row (line_numbers l)) fit in
    let (xs, any, is) = line_is l reads in
    let short : length xs < most_number = shorter xs is in
    let (x, are) = row_of row xs short (ap (form.numbers_fit row) (sym (numbers_told xs any) ∙ ap line_numbers is) ∙ fits) in
    (x, ap numbers are ∙ is)
  where
    shorter : (xs : List (Option ℕ)) → numbers xs ≡ l → length xs < most_number
    shorter xs is = omega (arith, numbers_long xs, ap length is)

-- the first number of a line
first_told : (xs : List (Option ℕ)) → Any xs → form.first_number (line_numbers (numbers xs)) ≡ sat (nth 0 xs)
first_told [] any = elim any [ ]
first_told (x ∷ xs) any = ap form.first_number (numbers_told (x ∷ xs) any)

-- whether no sheet can say a line, by its datum
layer_barred : (x : Option ℕ) → not (eqb (sat x) any_value) ≡ has_layer x
layer_barred none = refl
layer_barred (some n) = sat_plain n

above_zero : (n : ℕ) → ltb 0 (sat (some n)) ≡ ltb 0 n
above_zero zero = refl
above_zero (suc n) = lt-ltb 0 (sat (some (suc n))) (omega arith) ∙ sym (lt-ltb 0 (suc n) (omega arith))

count_bars : (what : form.Counted) (n : ℕ) → form.row_bars (form.Count what) (line_numbers (numbers (some n ∷ []))) ≡ count_barred what n
count_bars form.Variables n = refl
count_bars form.Values n = refl
count_bars form.Groups n = refl
count_bars form.GroupFacts n = refl
count_bars form.Facts n = refl
count_bars form.Operators n = refl
count_bars form.Effects n = refl
count_bars form.Axioms n = ap (ltb 0) (first_told (some n ∷ []) tt) ∙ above_zero n
count_bars form.Conditions n = refl

row_bars_told : (row : form.Row) (x : RowData row) → form.row_bars row (line_numbers (numbers (row_numbers row x))) ≡ row_barred row x
row_bars_told form.Metric x = refl
row_bars_told form.Layer x = ap (λ v. not (eqb v any_value)) (first_told (x ∷ []) tt) ∙ layer_barred x
row_bars_told form.Value x = refl
row_bars_told form.Fact x = refl
row_bars_told form.PassedFact x = refl
row_bars_told form.Effect x = ap (ltb 0) (first_told (effect_numbers x) tt) ∙ above_zero (length x.conditions)
row_bars_told form.Head x = refl
row_bars_told (form.Count what) n = count_bars what n

pub datum_bars : (d : form.Due) (x : Datum d) → form.bars d (line d x).bytes ≡ (line d x).barred
unfolding form.bars
datum_bars (form.keyword k) x = refl
datum_bars form.name x = refl
datum_bars (form.numbers row) x = row_bars_told row x

-- and its numbers that are kept
pub datum_keeps : (d : form.Due) (x : Datum d) → form.kept d (line d x).bytes ≡ keeps d x
unfolding form.kept
datum_keeps (form.keyword k) x = refl
datum_keeps form.name x = refl
datum_keeps (form.numbers row) x = ap (λ ys. cond (form.row_keeps row) ys []) (numbers_told (row_numbers row x) (row_any row x))

-- the lines that it adds, as they are read
abbrev pub read_adds : (d : form.Due) → Datum d → List form.Due
read_adds (form.keyword k) x = []
read_adds form.name x = []
read_adds (form.numbers form.Metric) x = []
read_adds (form.numbers form.Layer) x = []
read_adds (form.numbers form.Value) x = []
read_adds (form.numbers form.Fact) x = []
read_adds (form.numbers form.PassedFact) x = []
read_adds (form.numbers form.Effect) x = []
read_adds (form.numbers form.Head) x = []
read_adds (form.numbers (form.Count what)) n = form.after_count what (sat (some n))

pub datum_adds : (d : form.Due) (x : Datum d) → form.further d (line d x).bytes ≡ read_adds d x
unfolding form.further
datum_adds (form.keyword k) x = refl
datum_adds form.name x = refl
datum_adds (form.numbers form.Metric) x = refl
datum_adds (form.numbers form.Layer) x = refl
datum_adds (form.numbers form.Value) x = refl
datum_adds (form.numbers form.Fact) x = refl
datum_adds (form.numbers form.PassedFact) x = refl
datum_adds (form.numbers form.Effect) x = refl
datum_adds (form.numbers form.Head) x = refl
datum_adds (form.numbers (form.Count what)) n = ap (form.after_count what) (first_told (some n ∷ []) tt)
