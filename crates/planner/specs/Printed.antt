-- How a planner's text is printed (document 02, C-11: Fast Downward's translator output, version 3): its lines, and its
-- bytes. Assumes nothing.
use Rattle.std.specs.Prelude.{ℕ, Bool, true, false, cond, length, ltb}
use Prim.Native.String.{String}
use Rattle.std.proofs.Math.Option.{Option, none, some}
use mathlib.Core.List.{List, [], ◌∷◌, ◌++◌, map, flatten}
use Rattle.ascii.specs.Bytes.{ascii, space, line_end}
use Rattle.lines.specs.Lines.{numeral}
use Rattle.sas.specs.Task.{Fact, Assignment}
use Rattle.planner.specs.Text.{Name, Variable, Change, Effect, Operator, Axiom, Text}

-- a line, without its line end, and whether it says what no sheet can say
pub record Line : Type 0 where
  pub bytes : List ℕ
  pub barred : Bool

abbrev pub said : List ℕ → Line
said bytes = record { bytes = bytes; barred = false }

abbrev pub keyword : String → Line
keyword word = said (ascii word)

-- a number, or −1
abbrev pub number : Option ℕ → List ℕ
number none = ascii "-1"
number (some n) = numeral n

-- words with one space between
unfoldable pub joined : List (List ℕ) → List ℕ
joined [] = []
joined (w ∷ []) = w
joined (w ∷ v ∷ ws) = w ++ (space ∷ joined (v ∷ ws))

-- a line of numbers
abbrev pub numbers : List (Option ℕ) → List ℕ
numbers xs = joined (map number xs)

abbrev pub number_line : ℕ → Line
number_line n = said (numbers (some n ∷ []))

abbrev pub fact_numbers : Fact → List (Option ℕ)
fact_numbers f = some f.variable ∷ some f.value ∷ []

abbrev pub change_numbers : Change → List (Option ℕ)
change_numbers c = some c.variable ∷ c.old ∷ some c.new ∷ []

-- how many there are, and the lines of each
unfoldable pub counted : {A : Type 0} → (A → List Line) → List A → List Line
counted lines xs = number_line (length xs) ∷ flatten (map lines xs)

abbrev pub name_lines : Name → List Line
name_lines n = said n ∷ []

abbrev pub fact_lines : Fact → List Line
fact_lines f = said (numbers (fact_numbers f)) ∷ []

-- "an axiom layer other than −1" is what no sheet can say
abbrev pub layer_line : Option ℕ → Line
layer_line none = said (numbers (none ∷ []))
layer_line (some n) = record { bytes = numbers (some n ∷ []); barred = true }

abbrev pub variable_lines : Variable → List Line
variable_lines v =
    keyword "begin_variable"
    ∷ said v.name
    ∷ layer_line v.layer
    ∷ (counted name_lines v.values ++ (keyword "end_variable" ∷ []))

abbrev pub group_lines : Assignment → List Line
group_lines g = keyword "begin_mutex_group" ∷ (counted fact_lines g ++ (keyword "end_mutex_group" ∷ []))

abbrev pub value_lines : ℕ → List Line
value_lines n = number_line n ∷ []

abbrev pub effect_numbers : Effect → List (Option ℕ)
effect_numbers e =
    some (length e.conditions) ∷ (flatten (map fact_numbers e.conditions) ++ change_numbers e.change)

-- "a condition on an effect" is what no sheet can say
abbrev pub effect_lines : Effect → List Line
effect_lines e = record { bytes = numbers (effect_numbers e); barred = ltb 0 (length e.conditions) } ∷ []

abbrev pub operator_lines : Operator → List Line
operator_lines o =
    keyword "begin_operator"
    ∷ said o.name
    ∷ (counted fact_lines o.prevail
    ++ (counted effect_lines o.effects
    ++ (number_line o.cost ∷ keyword "end_operator" ∷ [])))

abbrev pub axiom_lines : Axiom → List Line
axiom_lines a =
    keyword "begin_rule"
    ∷ (counted fact_lines a.conditions ++ (said (numbers (change_numbers a.head)) ∷ keyword "end_rule" ∷ []))

-- "a number of axioms above 0" is what no sheet can say
abbrev pub axioms_line : ℕ → Line
axioms_line n = record { bytes = numbers (some n ∷ []); barred = ltb 0 n }

-- the lines of a text
unfoldable pub lines : Text → List Line
lines t =
    keyword "begin_version"
    ∷ keyword "3"
    ∷ keyword "end_version"
    ∷ keyword "begin_metric"
    ∷ number_line (cond t.metric 1 0)
    ∷ keyword "end_metric"
    ∷ (counted variable_lines t.variables
    ++ (counted group_lines t.groups
    ++ (keyword "begin_state"
    ∷ (flatten (map value_lines t.state)
    ++ (keyword "end_state"
    ∷ keyword "begin_goal"
    ∷ (counted fact_lines t.goal
    ++ (keyword "end_goal"
    ∷ (counted operator_lines t.operators
    ++ (axioms_line (length t.axioms) ∷ flatten (map axiom_lines t.axioms))))))))))

-- lines as bytes, each with its line end
unfoldable pub ended : List (List ℕ) → List ℕ
ended [] = []
ended (l ∷ ls) = l ++ (line_end ∷ ended ls)

-- the bytes of a text
abbrev pub printed : Text → List ℕ
printed t = ended (map (λ l. l.bytes) (lines t))
