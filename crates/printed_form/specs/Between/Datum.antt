-- What a line that is due holds, as data: the line that it makes, and the lines and numbers that it adds, where numbers
-- are exact. Assumes nothing.
use Rattle.std.specs.Prelude.{ℕ, min, Bool, false, true, cond, List, [], ◌∷◌, map, length, ltb}
use Rattle.std.proofs.Math.Option.{Option, none, some}
use Rattle.sas.specs.Task.{Fact}
use Rattle.fields.specs.Between.Numbers.{most_number, any_value}
use Rattle.form.specs.Between.Form as form
use Rattle.planner.specs.Text.{Name, Change, Effect}
use Rattle.planner.specs.Printed.{Line, said, numbers, fact_numbers, change_numbers, effect_numbers}

-- a number as it is read: those above every limit of a sheet are all the same
abbrev pub sat : Option ℕ → ℕ
sat none = any_value
sat (some n) = min most_number n

-- what a line of numbers holds
abbrev pub RowData : form.Row → Type 0
RowData form.Metric = Bool
RowData form.Layer = Option ℕ
RowData form.Value = ℕ
RowData form.Fact = Fact
RowData form.PassedFact = Fact
RowData form.Effect = Effect
RowData form.Head = Change
RowData (form.Count what) = ℕ

abbrev pub row_numbers : (row : form.Row) → RowData row → List (Option ℕ)
row_numbers form.Metric b = some (cond b 1 0) ∷ []
row_numbers form.Layer x = x ∷ []
row_numbers form.Value n = some n ∷ []
row_numbers form.Fact f = fact_numbers f
row_numbers form.PassedFact f = fact_numbers f
row_numbers form.Effect e = effect_numbers e
row_numbers form.Head c = change_numbers c
row_numbers (form.Count what) n = some n ∷ []

-- whether no sheet can say it
abbrev pub has_layer : Option ℕ → Bool
has_layer none = false
has_layer (some n) = true

abbrev pub count_barred : form.Counted → ℕ → Bool
count_barred form.Variables n = false
count_barred form.Values n = false
count_barred form.Groups n = false
count_barred form.GroupFacts n = false
count_barred form.Facts n = false
count_barred form.Operators n = false
count_barred form.Effects n = false
count_barred form.Axioms n = ltb 0 n
count_barred form.Conditions n = false

abbrev pub row_barred : (row : form.Row) → RowData row → Bool
row_barred form.Metric b = false
row_barred form.Layer x = has_layer x
row_barred form.Value n = false
row_barred form.Fact f = false
row_barred form.PassedFact f = false
row_barred form.Effect e = ltb 0 (length e.conditions)
row_barred form.Head c = false
row_barred (form.Count what) n = count_barred what n

abbrev pub row_adds : (row : form.Row) → RowData row → List form.Due
row_adds form.Metric b = []
row_adds form.Layer x = []
row_adds form.Value n = []
row_adds form.Fact f = []
row_adds form.PassedFact f = []
row_adds form.Effect e = []
row_adds form.Head c = []
row_adds (form.Count what) n = form.after_count what n

-- what a line that is due holds, the line, the lines that it adds to those due, and the numbers that it keeps
abbrev pub Datum : form.Due → Type 0
Datum (form.keyword k) = Unit
Datum form.name = Name
Datum (form.numbers row) = RowData row

abbrev pub line : (d : form.Due) → Datum d → Line
line (form.keyword k) u = said k
line form.name n = said n
line (form.numbers row) x = record { bytes = numbers (row_numbers row x); barred = row_barred row x }

abbrev pub adds : (d : form.Due) → Datum d → List form.Due
adds (form.keyword k) u = []
adds form.name n = []
adds (form.numbers row) x = row_adds row x

abbrev pub keeps : (d : form.Due) → Datum d → List ℕ
keeps (form.keyword k) u = []
keeps form.name n = []
keeps (form.numbers row) x = cond (form.row_keeps row) (map sat (row_numbers row x)) []
