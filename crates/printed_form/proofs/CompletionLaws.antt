-- Whatever lines are due, some lines fill it: what has been read so far can be completed. Assumes nothing.
use Prim.Native.Nat.{ℕ, zero, suc}
use mathlib.Core.Path.{◌≡◌, refl, sym, subst}
use mathlib.Core.Bool.{Bool, true, false, false≢true}
use mathlib.Core.Option.{none}
use mathlib.Core.List.{List, [], ◌∷◌, ◌++◌}
use Rattle.ascii.specs.Bytes.{ends_line}
use Rattle.fields.specs.Between.Reading.{has_line_end}
use Rattle.form.specs.Between.Form as form
use Rattle.planner.specs.Printed.{Line}
use Rattle.planner.specs.Broken.{OneLine}
use Rattle.printed_form.specs.Between.Datum.{RowData, Datum, row_numbers, row_adds, line, adds, keeps}
use Rattle.printed_form.specs.Between.Filled.{Takes, Fills}
use Rattle.printed_form.proofs.JoinLaws.{Free, one_line}
use Rattle.printed_form.proofs.SignLaws.{numbers_one_line}
use Rattle.printed_form.proofs.FillLaws.{fills_both}

keyword_free : (k : List ℕ) → has_line_end k ≡ false → Free ends_line k
keyword_free [] e = tt
keyword_free (b ∷ k) e = by_case (keyword_free k) (ends_line b) refl
  where
    by_case : (has_line_end k ≡ false → Free ends_line k) → (t : Bool) → ends_line b ≡ t → Free ends_line (b ∷ k)
    by_case rest true is = absurd (false≢true (sym (rw is at e)))
    by_case rest false is = (is, rest (rw is at e))

-- a line that is due and that some line can be
abbrev pub Possible : form.Due → Type 0
Possible (form.keyword k) = has_line_end k ≡ false
Possible form.name = Unit
Possible (form.numbers row) = Unit

abbrev pub AllPossible : List form.Due → Type 0
AllPossible [] = Unit
AllPossible (d ∷ ds) = Possible d × AllPossible ds

possible_both : (ds es : List form.Due) → AllPossible ds → AllPossible es → AllPossible (ds ++ es)
possible_both [] es first second = second
possible_both (d ∷ ds) es (here, there) second = (here, possible_both ds es there second)

possible_times : (n : ℕ) (ds : List form.Due) → AllPossible ds → AllPossible (form.times n ds)
unfolding form.times
possible_times zero ds all = tt
possible_times (suc n) ds all = possible_both ds (form.times n ds) all (possible_times n ds all)

possible_count : (what : form.Counted) (n : ℕ) → AllPossible (form.after_count what n)
unfolding form.after_count
possible_count form.Variables n =
    possible_both (form.times n form.variable_lines) _ (possible_times n form.variable_lines (refl, (tt, (tt, (tt, (refl, tt)))))) (
      tt,
      possible_both (form.state_lines n) _ (refl, possible_both (form.times n (form.numbers form.Value ∷ [])) _ (possible_times n _ (tt, tt)) (refl, tt))
          (refl, (tt, (refl, (tt, (tt, tt))))),
    )
possible_count form.Values n = possible_times n (form.name ∷ []) (tt, tt)
possible_count form.Groups n = possible_times n form.group_lines (refl, (tt, (refl, tt)))
possible_count form.GroupFacts n = possible_times n (form.numbers form.PassedFact ∷ []) (tt, tt)
possible_count form.Facts n = possible_times n (form.numbers form.Fact ∷ []) (tt, tt)
possible_count form.Operators n = possible_times n form.operator_lines (refl, (tt, (tt, (tt, (tt, (refl, tt))))))
possible_count form.Effects n = possible_times n (form.numbers form.Effect ∷ []) (tt, tt)
possible_count form.Axioms n = possible_times n form.axiom_lines (refl, (tt, (tt, (refl, tt))))
possible_count form.Conditions n = possible_times n (form.numbers form.PassedFact ∷ []) (tt, tt)

possible_row : (row : form.Row) (x : RowData row) → AllPossible (row_adds row x)
possible_row form.Metric x = tt
possible_row form.Layer x = tt
possible_row form.Value x = tt
possible_row form.Fact x = tt
possible_row form.PassedFact x = tt
possible_row form.Effect x = tt
possible_row form.Head x = tt
possible_row (form.Count what) n = possible_count what n

possible_adds : (d : form.Due) (x : Datum d) → AllPossible (adds d x)
possible_adds (form.keyword k) x = tt
possible_adds form.name x = tt
possible_adds (form.numbers row) x = possible_row row x

pub possible_text : AllPossible form.text_lines
possible_text = (refl, (refl, (refl, (refl, (tt, (refl, (tt, tt)))))))

pub takes_possible : (ls : List Line) (ds : List form.Due) (xs : List ℕ) (end : List form.Due) → Takes ls ds xs end → AllPossible ds → AllPossible end
takes_possible [] ds xs end (same, nothing) all = subst AllPossible same all
takes_possible (l ∷ ls) [] xs end takes all = absurd takes
takes_possible (l ∷ ls) (d ∷ ds) xs end takes (here, there) =
    takes_possible ls (adds d takes.datum ++ ds) takes.others end takes.rest
    (possible_both (adds d takes.datum) ds (possible_adds d takes.datum) there)

-- lines that fill what is due
pub record FilledUp (ds : List form.Due) : Type 0 where
  pub lines : List Line
  pub numbers : List ℕ
  pub fills : Fills ds lines numbers

up_both : (ds es : List form.Due) → FilledUp ds → FilledUp es → FilledUp (ds ++ es)
up_both ds es first second =
    record {
      lines = first.lines ++ second.lines;
      numbers = first.numbers ++ second.numbers;
      fills = fills_both ds es first.lines second.lines first.numbers second.numbers first.fills second.fills;
    }

-- one line, and what it adds
up_line : (d : form.Due) (x : Datum d) → OneLine (line d x).bytes → FilledUp (adds d x ++ []) → FilledUp (d ∷ [])
up_line d x one rest =
    record {
      lines = line d x ∷ rest.lines;
      numbers = keeps d x ++ rest.numbers;
      fills = record { datum = x; is = refl; one_line = one; others = rest.numbers; kept = refl; rest = rest.fills };
    }

up_none : FilledUp []
up_none = record { lines = []; numbers = []; fills = (refl, refl) }

up_row : (row : form.Row) (x : RowData row) → row_adds row x ≡ [] → FilledUp (form.numbers row ∷ [])
up_row row x alone =
    up_line (form.numbers row) x (numbers_one_line (row_numbers row x)) (subst (λ more. FilledUp (more ++ [])) (sym alone) up_none)

-- of every number that counts but that of variables
up_count : (what : form.Counted) → form.after_count what 0 ≡ [] → FilledUp (form.counts what ∷ [])
up_count what alone = up_row (form.Count what) 0 alone

up_keyword : (k : List ℕ) → has_line_end k ≡ false → FilledUp (form.keyword k ∷ [])
up_keyword k free = up_line (form.keyword k) tt (one_line k (keyword_free k free)) up_none

up_then : (d : form.Due) (ds : List form.Due) → FilledUp (d ∷ []) → FilledUp ds → FilledUp (d ∷ ds)
up_then d ds first second = up_both (d ∷ []) ds first second

up_variables : FilledUp (form.counts form.Variables ∷ [])
unfolding form.after_count form.times
up_variables =
    up_line (form.counts form.Variables) 0 (numbers_one_line (row_numbers (form.Count form.Variables) 0))
    (up_then (form.counts form.Groups) _ (up_count form.Groups refl)
    (up_then (form.keyword _) _ (up_keyword _ refl)
    (up_then (form.keyword _) _ (up_keyword _ refl)
    (up_then (form.keyword _) _ (up_keyword _ refl)
    (up_then (form.counts form.Facts) _ (up_count form.Facts refl)
    (up_then (form.keyword _) _ (up_keyword _ refl)
    (up_then (form.counts form.Operators) _ (up_count form.Operators refl) (up_count form.Axioms refl))))))))

up_counts : (what : form.Counted) → FilledUp (form.counts what ∷ [])
unfolding form.after_count form.times
up_counts form.Variables = up_variables
up_counts form.Values = up_count form.Values refl
up_counts form.Groups = up_count form.Groups refl
up_counts form.GroupFacts = up_count form.GroupFacts refl
up_counts form.Facts = up_count form.Facts refl
up_counts form.Operators = up_count form.Operators refl
up_counts form.Effects = up_count form.Effects refl
up_counts form.Axioms = up_count form.Axioms refl
up_counts form.Conditions = up_count form.Conditions refl

up_due : (d : form.Due) → Possible d → FilledUp (d ∷ [])
up_due (form.keyword k) free = up_keyword k free
up_due form.name free = up_line form.name [] (one_line [] tt) up_none
up_due (form.numbers form.Metric) free = up_row form.Metric true refl
up_due (form.numbers form.Layer) free = up_row form.Layer none refl
up_due (form.numbers form.Value) free = up_row form.Value 0 refl
up_due (form.numbers form.Fact) free = up_row form.Fact (record { variable = 0; value = 0 }) refl
up_due (form.numbers form.PassedFact) free = up_row form.PassedFact (record { variable = 0; value = 0 }) refl
up_due (form.numbers form.Effect) free =
    up_row form.Effect (record { conditions = []; change = record { variable = 0; old = none; new = 0 } }) refl
up_due (form.numbers form.Head) free = up_row form.Head (record { variable = 0; old = none; new = 0 }) refl
up_due (form.numbers (form.Count what)) free = up_counts what

pub filled_up : (ds : List form.Due) → AllPossible ds → FilledUp ds
filled_up [] all = up_none
filled_up (d ∷ ds) (here, there) = up_then d ds (up_due d here) (filled_up ds there)
