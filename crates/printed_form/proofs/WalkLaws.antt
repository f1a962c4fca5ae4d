-- Reading line by line finds lines that are what they must be by their data: where numbers above every limit are read as
-- one, what is due is the same as far as there are lines. Assumes nothing.
use Rattle.std.specs.Prelude.{Some}
use Prim.Native.Nat.{ℕ, zero, suc, ◌+◌, ◌≤◌, ◌<◌}
use native.Mathlib.Omega.{arith}
use mathlib.Core.Path.{◌≡◌, refl, sym, ◌∙◌, ap, subst}
use mathlib.Core.Bool.{Bool, true, false, cond, false≢true}
use mathlib.Core.Option.{some}
use mathlib.Core.List.{List, [], ◌∷◌, ◌++◌, append_assoc, nil≢cons, cons≢nil, head-eq_of_cons-eq, tail-eq_of_cons-eq}
use lib.ListN.{length, take}
use lib.Seq.{take-take}
use lib.Dec.{leb}
use borrow.Author.Tests.{leb-true, leb-false}
use Rattle.refusal.specs.Place.{Place}
use Rattle.ascii.specs.Bytes.{ends_line}
use Rattle.fields.specs.Between.Numbers.{most_number}
use Rattle.form.specs.Between.Form as form
use Rattle.form.specs.Between.Form.{Due, Walk}
use Rattle.planner.specs.Printed.{Line}
use Rattle.planner.specs.Broken.{OneLine}
use Rattle.planner.specs.Meant.{first_barred}
use Rattle.printed_form.specs.Between.Datum.{sat, Datum, line, adds, keeps}
use Rattle.printed_form.specs.Between.Filled.{Takes}
use Rattle.printed_form.proofs.JoinLaws.{AllFree, one_line}
use Rattle.printed_form.proofs.DatumLaws.{datum_of, datum_bars, datum_keeps, read_adds, datum_adds}
use Rattle.printed_form.proofs.FillLaws.{bytes_each}

-- what is due is the same for so many lines
abbrev Near : ℕ → List Due → List Due → Type 0
Near k ds es = take k ds ≡ take k es

near_fewer : (k : ℕ) (ds es : List Due) → Near (suc k) ds es → Near k ds es
near_fewer k ds es near = sym (take-take k (suc k) ds (omega arith)) ∙ ap (take k) near ∙ take-take k (suc k) es (omega arith)

near_behind : (front : List Due) (k : ℕ) (ds es : List Due) → Near k ds es → Near k (front ++ ds) (front ++ es)
near_behind [] k ds es near = near
near_behind (d ∷ front) zero ds es near = refl
near_behind (d ∷ front) (suc k) ds es near = ap (λ r. d ∷ r) (near_behind front k ds es (near_fewer k ds es near))

near_times : (k n m : ℕ) (b : Due) (bs ds es : List Due) → k ≤ n → k ≤ m → Near k (form.times n (b ∷ bs) ++ ds) (form.times m (b ∷ bs) ++ es)
unfolding form.times
near_times zero n m b bs ds es low also = refl
near_times (suc k) zero m b bs ds es low also = absurd (omega arith)
near_times (suc k) (suc n) zero b bs ds es low also = absurd (omega arith)
near_times (suc k) (suc n) (suc m) b bs ds es low also =
    let block : List Due = b ∷ bs in
    ap (λ r. b ∷ r)
    (ap (take k) (append_assoc bs (form.times n block) ds)
    ∙ near_behind bs k (form.times n block ++ ds) (form.times m block ++ es) (near_times k n m b bs ds es (omega arith) (omega arith))
    ∙ ap (take k) (sym (append_assoc bs (form.times m block) es)))

near_many : (what : form.Counted) (k n m : ℕ) (ds es : List Due) → k ≤ n → k ≤ m → Near k (form.after_count what n ++ ds) (form.after_count what m ++ es)
unfolding form.after_count
near_many form.Variables k n m ds es low also =
    ap (take k) (append_assoc (form.times n form.variable_lines) _ ds) ∙ near_times k n m _ _ _ _ low also
    ∙ ap (take k) (sym (append_assoc (form.times m form.variable_lines) _ es))
near_many form.Values k n m ds es low also = near_times k n m _ _ ds es low also
near_many form.Groups k n m ds es low also = near_times k n m _ _ ds es low also
near_many form.GroupFacts k n m ds es low also = near_times k n m _ _ ds es low also
near_many form.Facts k n m ds es low also = near_times k n m _ _ ds es low also
near_many form.Operators k n m ds es low also = near_times k n m _ _ ds es low also
near_many form.Effects k n m ds es low also = near_times k n m _ _ ds es low also
near_many form.Axioms k n m ds es low also = near_times k n m _ _ ds es low also
near_many form.Conditions k n m ds es low also = near_times k n m _ _ ds es low also

near_count : (what : form.Counted) (k n : ℕ) (ds es : List Due) → k ≤ most_number → Near k ds es
    → Near k (form.after_count what (sat (some n)) ++ ds) (form.after_count what n ++ es)
near_count what k n ds es few near = by_case (leb n most_number) refl
  where
    by_case : (b : Bool) → leb n most_number ≡ b → Near k (form.after_count what (sat (some n)) ++ ds) (form.after_count what n ++ es)
    by_case true e =
        let same : sat (some n) ≡ n = omega (arith, leb-true n most_number e) in
        subst (λ m. Near k (form.after_count what m ++ ds) (form.after_count what n ++ es)) (sym same) (near_behind (form.after_count what n) k ds es near)
    by_case false e =
        let large : most_number < n = leb-false n most_number e in
        near_many what k (sat (some n)) n ds es (omega arith) (omega arith)

near_adds : (d : Due) (x : Datum d) (k : ℕ) (ds es : List Due) → k ≤ most_number → Near k ds es → Near k (read_adds d x ++ ds) (adds d x ++ es)
near_adds (form.keyword w) x k ds es few near = near
near_adds form.name x k ds es few near = near
near_adds (form.numbers form.Metric) x k ds es few near = near
near_adds (form.numbers form.Layer) x k ds es few near = near
near_adds (form.numbers form.Value) x k ds es few near = near
near_adds (form.numbers form.Fact) x k ds es few near = near
near_adds (form.numbers form.PassedFact) x k ds es few near = near
near_adds (form.numbers form.Effect) x k ds es few near = near
near_adds (form.numbers form.Head) x k ds es few near = near
near_adds (form.numbers (form.Count what)) n k ds es few near = near_count what k n ds es few near

-- what reading has found of these runs, where exactly these lines were due
pub record Found (w : Walk) (rs : List (List ℕ)) (es : List Due) : Type 0 where
  pub lines : List Line
  pub numbers : List ℕ
  pub end : List Due
  pub takes : Takes lines es numbers end
  pub read : length w.read ≡ length lines
  pub kept : form.kept_of w.read ≡ numbers
  pub barred : (n : ℕ) → form.first_barred n w.read ≡ first_barred n lines
  -- the run at which it stops, and those behind it
  pub here : List ℕ
  pub behind : List (List ℕ)
  pub left : w.left ≡ here ∷ behind
  pub runs : rs ≡ bytes_each lines ++ (here ∷ behind)
  pub near : Near (suc (length behind)) w.due end
  pub stops : (behind ≡ [] → ⊥) → (d : Due) (ds : List Due) → w.due ≡ d ∷ ds → form.fits d here ≡ false

-- runs that are short and free of line ends
abbrev pub AllShort : List (List ℕ) → Type 0
AllShort [] = Unit
AllShort (r ∷ rs) = (length r < most_number) × AllShort rs

found_stop : (l : List ℕ) (others : List (List ℕ)) (ds es : List Due) → Near (suc (length others)) ds es
    → ((others ≡ [] → ⊥) → (d : Due) (fs : List Due) → ds ≡ d ∷ fs → form.fits d l ≡ false) → Found (form.stop others l ds) (l ∷ others) es
unfolding form.kept_of form.first_barred first_barred
found_stop l others ds es near stops =
    record {
      lines = [];
      numbers = [];
      end = es;
      takes = (refl, refl);
      read = refl;
      kept = refl;
      barred = λ n. refl;
      here = l;
      behind = others;
      left = refl;
      runs = refl;
      near = near;
      stops = stops;
    }

-- the walk past a line, and before one that is not what it must be
walk_past : (m : List ℕ) (others : List (List ℕ)) (l : List ℕ) (d : Due) (ds : List Due) → form.fits d l ≡ true
    → form.walk (m ∷ others) l (d ∷ ds) ≡ form.read_first (record { due = d; line = l }) (form.walk others m (form.further d l ++ ds))
unfolding form.walk
walk_past m others l d ds fit = rw (fit, form.walk)

walk_before : (m : List ℕ) (others : List (List ℕ)) (l : List ℕ) (d : Due) (ds : List Due) → form.fits d l ≡ false
    → form.walk (m ∷ others) l (d ∷ ds) ≡ form.stop (m ∷ others) l (d ∷ ds)
unfolding form.walk
walk_before m others l d ds fit = rw (fit, form.walk)

-- one line more
module _ (l : List ℕ) (d : Due) (x : Datum d) (is : (line d x).bytes ≡ l) (one : OneLine l) (w : Walk) (rs : List (List ℕ)) (es : List Due)
    (found : Found w rs (adds d x ++ es)) where
  abbrev this : form.Entry
  this = record { due = d; line = l }

  barred_next : (n : ℕ) → form.first_barred n (this ∷ w.read) ≡ first_barred n (line d x ∷ found.lines)
  unfolding form.first_barred first_barred
  barred_next n = same (form.bars d l) (line d x).barred (ap (form.bars d) (sym is) ∙ datum_bars d x) (found.barred (n + 1))
    where
      same : {p q : Place} (b c : Bool) → b ≡ c → p ≡ q → (elim b [ true ↦ Some n | false ↦ p ]) ≡ cond c (Some n) q
      same true true e f = refl
      same true false e f = absurd (false≢true (sym e))
      same false true e f = absurd (false≢true e)
      same false false e f = f

  kept_next : form.kept_of (this ∷ w.read) ≡ keeps d x ++ found.numbers
  unfolding form.kept_of
  kept_next = ap (λ ys. ys ++ form.kept_of w.read) (ap (form.kept d) (sym is) ∙ datum_keeps d x) ∙ ap (λ ys. keeps d x ++ ys) found.kept

  found_next : Found (form.read_first this w) (l ∷ rs) (d ∷ es)
  found_next =
      record {
        lines = line d x ∷ found.lines;
        numbers = keeps d x ++ found.numbers;
        end = found.end;
        takes =
            record {
              datum = x;
              is = refl;
              one_line = subst OneLine (sym is) one;
              others = found.numbers;
              kept = refl;
              rest = found.takes;
            };
        read = ap suc found.read;
        kept = kept_next;
        barred = barred_next;
        here = found.here;
        behind = found.behind;
        left = found.left;
        runs = ap (λ ks. l ∷ ks) found.runs ∙ ap (λ k. k ∷ (bytes_each found.lines ++ (found.here ∷ found.behind))) (sym is);
        near = found.near;
        stops = found.stops;
      }

-- reading runs finds their lines
abbrev Finds : List (List ℕ) → Type 0
Finds others =
    (l : List ℕ) (ds es : List Due) → length others < most_number → AllShort (l ∷ others) → AllFree ends_line (l ∷ others)
    → Near (suc (length others)) ds es → Found (form.walk others l ds) (l ∷ others) es

module _ (m : List ℕ) (others : List (List ℕ)) (rest : Finds others) (l : List ℕ) (d : Due) (ds es : List Due) (few : length (m ∷ others) < most_number)
    (short : AllShort (l ∷ m ∷ others)) (free : AllFree ends_line (l ∷ m ∷ others)) (near : Near (suc (length others)) ds es) where
  found_past : form.fits d l ≡ true → Found (form.walk (m ∷ others) l (d ∷ ds)) (l ∷ m ∷ others) (d ∷ es)
  found_past fit =
      let (x, is) = datum_of d l short.0 fit in
      let added : form.further d l ≡ read_adds d x = ap (form.further d) (sym is) ∙ datum_adds d x in
      let next : Near (suc (length others)) (form.further d l ++ ds) (adds d x ++ es) =
      ap (λ more. take (suc (length others)) (more ++ ds)) added ∙ near_adds d x (suc (length others)) ds es (omega arith) near in
      subst (λ w. Found w (l ∷ m ∷ others) (d ∷ es)) (sym (walk_past m others l d ds fit))
      (found_next l d x is (one_line l free.0) (form.walk others m (form.further d l ++ ds)) (m ∷ others) es
      (rest m (form.further d l ++ ds) (adds d x ++ es) (omega arith) short.1 free.1 next))

  found_before : form.fits d l ≡ false → Found (form.walk (m ∷ others) l (d ∷ ds)) (l ∷ m ∷ others) (d ∷ es)
  found_before fit =
      subst (λ w. Found w (l ∷ m ∷ others) (d ∷ es)) (sym (walk_before m others l d ds fit))
      (found_stop l (m ∷ others) (d ∷ ds) (d ∷ es) (ap (λ r. d ∷ r) near)
      (λ more e fs same. ap (λ c. form.fits c l) (sym (head-eq_of_cons-eq same)) ∙ fit))

  found_line : Found (form.walk (m ∷ others) l (d ∷ ds)) (l ∷ m ∷ others) (d ∷ es)
  found_line = by_case (form.fits d l) refl
    where
      by_case : (b : Bool) → form.fits d l ≡ b → Found (form.walk (m ∷ others) l (d ∷ ds)) (l ∷ m ∷ others) (d ∷ es)
      by_case true fit = found_past fit
      by_case false fit = found_before fit

pub walk_found : (others : List (List ℕ)) → Finds others
unfolding form.walk
walk_found [] l ds es few short free near = found_stop l [] ds es near (λ more. absurd (more refl))
walk_found (m ∷ others) l [] es few short free near = found_stop l (m ∷ others) [] es near (λ more d fs same. absurd (nil≢cons same))
walk_found (m ∷ others) l (d ∷ ds) [] few short free near = absurd (cons≢nil near)
walk_found (m ∷ others) l (d ∷ ds) (e ∷ es) few short free near =
    subst (λ c. Found (form.walk (m ∷ others) l (d ∷ ds)) (l ∷ m ∷ others) (c ∷ es)) (head-eq_of_cons-eq near)
    (found_line m others (walk_found others) l d ds es few short free (tail-eq_of_cons-eq near))
