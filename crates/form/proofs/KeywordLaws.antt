-- Keywords and names: where a line ends, and whether it is a keyword. Each way to a return of a method that reads one has a law. Assumes nothing.
use Prim.Native.Nat.{ℕ, suc, ◌+◌, ◌<◌}
use native.Mathlib.Omega.{arith}
use mathlib.Core.Path.{◌≡◌, refl, sym, ◌∙◌, ap}
use mathlib.Core.Bool.{Bool, true, false, false≢true}
use mathlib.Core.List.{List, [], ◌∷◌, ◌++◌, append-nil}
use lib.ListN.{length, length-append}
use borrow.Author.Tests.{eqb-true, eq-eqb}
use Rattle.ascii.specs.Bytes.{line_end, ends_line, runs, split}
use Rattle.ascii.proofs.SplitLaws.{split_at, split_in}
use Rattle.fields.specs.Between.Fields.{lines_of, same}
use Rattle.fields.specs.Between.Reading.{has_line_end}
use Rattle.fields.proofs.ClassTheorem.{same_equal}
use Rattle.form.specs.Between.Form.{Due, keyword, name, fits, further, bars, kept}
use Rattle.form.specs.Between.Reading.{Stand, passed, going_on}
use Rattle.form.specs.Between.Reading.Outcome.{Broken}
use Rattle.form.proofs.GoingLaws.{Cut, going_missing, going_broken, going_next}
use Rattle.form.proofs.StopLaws.{first_or_none}

pub same_self : (k : List ℕ) → same k k ≡ true
unfolding same
same_self [] = refl
same_self (c ∷ k) = rw (eq-eqb c c refl) (same_self k)

-- a byte that is not the line end of a keyword
no_end_first : (c : ℕ) (k : List ℕ) → has_line_end (c ∷ k) ≡ false → ends_line c ≡ false
no_end_first c k e = by_case (ends_line c) refl
  where
    by_case : (t : Bool) → ends_line c ≡ t → ends_line c ≡ false
    by_case true is = absurd (false≢true (sym (rw is at e)))
    by_case false is = is

no_end_rest : (c : ℕ) (k : List ℕ) → has_line_end (c ∷ k) ≡ false → has_line_end k ≡ false
no_end_rest c k e = rw (no_end_first c k e) at e

-- bytes that begin with a keyword and its line end
begins_cut : (k rest : List ℕ) → has_line_end k ≡ false → Cut (k ++ (line_end ∷ rest)) k rest
begins_cut [] rest no_end = split_at ends_line line_end rest refl
begins_cut (c ∷ k) rest no_end =
    split_in ends_line c (k ++ (line_end ∷ rest)) (no_end_first c k no_end)
    ∙ ap (λ s. record { first = c ∷ s.first; others = s.others }) (begins_cut k rest (no_end_rest c k no_end))

-- a line that ends, and what stands behind it
line_stands : (bs l m : List ℕ) (others : List (List ℕ)) → lines_of bs ≡ record { first = l; others = m ∷ others }
    → (t : List ℕ) × (bs ≡ l ++ (line_end ∷ t))
unfolding split
line_stands [] l m others cut = absurd (let none : 0 ≡ suc (length others) = ap (λ s. length s.others) cut in omega arith)
line_stands (b ∷ bs) l m others cut = by_case (line_stands bs) (ends_line b) refl
  where
    by_case : ((l m : List ℕ) (others : List (List ℕ)) → lines_of bs ≡ record { first = l; others = m ∷ others } → (t : List ℕ) × (bs ≡ l ++ (line_end ∷ t)))
        → (u : Bool) → ends_line b ≡ u → (t : List ℕ) × (b ∷ bs ≡ l ++ (line_end ∷ t))
    by_case later true is =
        let none : [] ≡ l = ap (λ s. s.first) (sym (split_at ends_line b bs is) ∙ cut) in
        (bs, ap (λ c. c ∷ bs) (eqb-true b line_end is) ∙ ap (λ k. k ++ (line_end ∷ bs)) none)
    by_case later false is =
        let on : record { first = b ∷ (lines_of bs).first; others = (lines_of bs).others } ≡ record { first = l; others = m ∷ others } =
        sym (split_in ends_line b bs is) ∙ cut in
        let (t, e) = later (lines_of bs).first m others (ap (λ os. record { first = (lines_of bs).first; others = os }) (ap (λ s. s.others) on)) in
        (t, ap (λ ys. b ∷ ys) e ∙ ap (λ k. k ++ (line_end ∷ t)) (ap (λ s. s.first) on))

-- bytes that don't: their first line, if it ends, is another
begins_not : (k bs : List ℕ) → ((t : List ℕ) → bs ≡ k ++ (line_end ∷ t) → ⊥) → (l m : List ℕ) (others : List (List ℕ))
    → lines_of bs ≡ record { first = l; others = m ∷ others } → same l k ≡ false
begins_not k bs lacks l m others cut = by_case (same l k) refl
  where
    by_case : (u : Bool) → same l k ≡ u → same l k ≡ false
    by_case true is = let (t, e) = line_stands bs l m others cut in absurd (lacks t (e ∙ ap (λ w. w ++ (line_end ∷ t)) (same_equal l k is)))
    by_case false is = is

module _ (s : Stand) where
  module _ (k : List ℕ) where
    pub no_keyword : ((t : List ℕ) → s.rest ≡ k ++ (line_end ∷ t) → ⊥) → (ds : List Due) → going_on (keyword k ∷ ds) s ≡ Broken (s.line + 1)
    unfolding fits
    no_keyword lacks = going_broken s (keyword k) (begins_not k s.rest lacks)

    pub keyword_read : has_line_end k ≡ false → (rest : List ℕ) → s.rest ≡ k ++ (line_end ∷ rest) → (ds : List Due)
        → going_on ds (passed rest s) ≡ going_on (keyword k ∷ ds) s
    unfolding fits further kept bars
    keyword_read no_end rest begins =
        let cut : Cut s.rest k rest = ap (λ bs. lines_of bs) begins ∙ begins_cut k rest no_end in
        going_next s (keyword k) k rest cut (same_self k) s.tape s.count s.barred (sym (append-nil _)) (first_or_none s.barred)

  pub no_name : (lines_of s.rest).others ≡ [] → (ds : List Due) → going_on (name ∷ ds) s ≡ Broken (s.line + 1)
  no_name unended = going_missing s (lines_of s.rest).first (ap (λ os. record { first = (lines_of s.rest).first; others = os }) unended) name

  pub name_read : (rest : List ℕ) → (lines_of s.rest).others ≡ runs (lines_of rest) → (ds : List Due)
      → going_on ds (passed rest s) ≡ going_on (name ∷ ds) s
  unfolding fits further kept bars
  name_read rest ends =
      going_next s name (lines_of s.rest).first rest (ap (λ os. record { first = (lines_of s.rest).first; others = os }) ends) refl s.tape s.count s.barred
      (sym (append-nil _)) (first_or_none s.barred)

-- bytes that begin with a line and its line end are more than those behind it
pub strip_shorter : (k rest bs : List ℕ) → bs ≡ k ++ (line_end ∷ rest) → length rest < length bs
strip_shorter k rest bs e = omega (arith, ap length e, length-append k (line_end ∷ rest))
