-- The form of a planner's text (document 02, C-11: Fast Downward's translator output, version 3): what each line must
-- be, given those before it. Assumes nothing.
use Rattle.std.specs.Prelude.{ℕ, zero, suc, ◌+◌, ◌*◌, Bool, true, false, not, cond, ◌&&◌, List, [], ◌∷◌, ◌++◌, length, get_or, ltb, eqb, None, Some}
use Rattle.ascii.specs.Bytes.{ascii}
use Rattle.refusal.specs.Place.{Place}
use Rattle.fields.specs.Between.Numbers.{any_value}
use Rattle.fields.specs.Between.Fields.{lines_of, same, line_reads, line_numbers, all_plain, plain_but_old}

-- what a number counts
pub data Counted : Type 0 where
  Variables : Counted
  Values : Counted
  Groups : Counted
  GroupFacts : Counted
  Facts : Counted
  Operators : Counted
  Effects : Counted
  Axioms : Counted
  Conditions : Counted

-- a line of numbers
pub data Row : Type 0 where
  -- 0 or 1
  Metric : Row
  -- −1 or a number: the axiom layer of a variable
  Layer : Row
  -- a starting value, or a cost
  Value : Row
  -- `variable value`: of the goal, or a prevail condition
  Fact : Row
  -- the same, passed over: of a mutex group, or a condition of an axiom
  PassedFact : Row
  -- an effect, with its conditions
  Effect : Row
  -- `variable old new`: the head of an axiom
  Head : Row
  -- how many lines, or blocks of lines, follow
  Count : Counted → Row

-- what a line may have to be: a keyword, a name, which is any line, or a line of numbers
pub data Due : Type 0 where
  keyword : List ℕ → Due
  name : Due
  numbers : Row → Due

abbrev pub first_number : List ℕ → ℕ
first_number xs = get_or xs 0 0

-- whether these numbers are such a line's: −1 stands only in a layer, and as an old value, the last number but one
unfoldable pub numbers_fit : Row → List ℕ → Bool
numbers_fit Metric xs = eqb (length xs) 1 && ltb (first_number xs) 2
numbers_fit Layer xs = eqb (length xs) 1
numbers_fit Value xs = eqb (length xs) 1 && all_plain xs
numbers_fit Fact xs = eqb (length xs) 2 && all_plain xs
numbers_fit PassedFact xs = eqb (length xs) 2 && all_plain xs
numbers_fit Effect xs = eqb (length xs) (2 * first_number xs + 4) && plain_but_old xs
numbers_fit Head xs = eqb (length xs) 3 && plain_but_old xs
numbers_fit (Count what) xs = eqb (length xs) 1 && all_plain xs

unfoldable pub fits : Due → List ℕ → Bool
fits (keyword k) line = same line k
fits name line = true
fits (numbers row) line = line_reads line && numbers_fit row (line_numbers line)

-- n times the same lines
unfoldable pub times : ℕ → List Due → List Due
times zero ds = []
times (suc n) ds = ds ++ times n ds

abbrev pub counts : Counted → Due
counts what = numbers (Count what)

abbrev pub variable_lines : List Due
variable_lines =
    keyword (ascii "begin_variable")
    ∷ name
    ∷ numbers Layer
    ∷ counts Values
    ∷ keyword (ascii "end_variable")
    ∷ []

abbrev pub group_lines : List Due
group_lines = keyword (ascii "begin_mutex_group") ∷ counts GroupFacts ∷ keyword (ascii "end_mutex_group") ∷ []

abbrev pub operator_lines : List Due
operator_lines =
    keyword (ascii "begin_operator")
    ∷ name
    ∷ counts Facts
    ∷ counts Effects
    ∷ numbers Value
    ∷ keyword (ascii "end_operator")
    ∷ []

abbrev pub axiom_lines : List Due
axiom_lines = keyword (ascii "begin_rule") ∷ counts Conditions ∷ numbers Head ∷ keyword (ascii "end_rule") ∷ []

-- the state of n variables
abbrev pub state_lines : ℕ → List Due
state_lines n = keyword (ascii "begin_state") ∷ (times n (numbers Value ∷ []) ++ (keyword (ascii "end_state") ∷ []))

abbrev pub goal_lines : List Due
goal_lines = keyword (ascii "begin_goal") ∷ counts Facts ∷ keyword (ascii "end_goal") ∷ []

-- what follows the number of variables: the variables, mutex groups, state, goal, operators and axioms
abbrev pub after_variables : ℕ → List Due
after_variables n =
    times n variable_lines
    ++ (counts Groups ∷ (state_lines n ++ (goal_lines ++ (counts Operators ∷ counts Axioms ∷ []))))

-- what follows a number that says how many
unfoldable pub after_count : Counted → ℕ → List Due
after_count Variables n = after_variables n
after_count Values n = times n (name ∷ [])
after_count Groups n = times n group_lines
after_count GroupFacts n = times n (numbers PassedFact ∷ [])
after_count Facts n = times n (numbers Fact ∷ [])
after_count Operators n = times n operator_lines
after_count Effects n = times n (numbers Effect ∷ [])
after_count Axioms n = times n axiom_lines
after_count Conditions n = times n (numbers PassedFact ∷ [])

abbrev pub after_row : Row → List ℕ → List Due
after_row Metric xs = []
after_row Layer xs = []
after_row Value xs = []
after_row Fact xs = []
after_row PassedFact xs = []
after_row Effect xs = []
after_row Head xs = []
after_row (Count what) xs = after_count what (first_number xs)

-- the lines that a line adds to those due
unfoldable pub further : Due → List ℕ → List Due
further (keyword k) line = []
further name line = []
further (numbers row) line = after_row row (line_numbers line)

-- the version, then the metric
abbrev pub front_lines : List Due
front_lines =
    keyword (ascii "begin_version")
    ∷ keyword (ascii "3")
    ∷ keyword (ascii "end_version")
    ∷ keyword (ascii "begin_metric")
    ∷ numbers Metric
    ∷ keyword (ascii "end_metric")
    ∷ []

-- the lines of a text
abbrev pub text_lines : List Due
text_lines = front_lines ++ (counts Variables ∷ [])

-- a line that is what it must be
pub record Entry : Type 0 where
  pub due : Due
  pub line : List ℕ

-- a text read line by line, up to the first that is not what it must be, that is missing or that nothing asks for: the
-- lines read, those due then, and the runs of bytes that are left
pub record Walk : Type 0 where
  pub read : List Entry
  pub due : List Due
  pub left : List (List ℕ)

abbrev pub read_first : Entry → Walk → Walk
read_first e w = record { read = e ∷ w.read; due = w.due; left = w.left }

abbrev pub stop : List (List ℕ) → List ℕ → List Due → Walk
stop others l ds = record { read = []; due = ds; left = l ∷ others }

-- the runs of bytes are a first one, l, and the others. The last of all is no line: it stands behind the last line end
unfoldable pub walk : List (List ℕ) → List ℕ → List Due → Walk
walk [] l ds = stop [] l ds
walk (m ∷ others) l [] = stop (m ∷ others) l []
walk (m ∷ others) l (d ∷ ds) =
    elim (fits d l) [
      | true ↦ read_first (record { due = d; line = l }) (walk others m (further d l ++ ds))
      | false ↦ stop (m ∷ others) l (d ∷ ds)
    ]

-- bytes read line by line, where these lines are due
abbrev pub walk_from : List Due → List ℕ → Walk
walk_from ds bytes = walk (lines_of bytes).others (lines_of bytes).first ds

-- a text is whole where no line is due and nothing is left behind the last line end
unfoldable pub nothing_left : List (List ℕ) → Bool
nothing_left [] = false
nothing_left ([] ∷ []) = true
nothing_left ([] ∷ m ∷ ls) = false
nothing_left ((b ∷ l) ∷ ls) = false

abbrev pub nothing_due : List Due → Bool
nothing_due [] = true
nothing_due (d ∷ ds) = false

unfoldable pub whole : Walk → Bool
whole w = nothing_due w.due && nothing_left w.left

unfoldable pub walked : List ℕ → Walk
walked text = walk_from text_lines text

-- 13: "a text that breaks the form, place the first such line from 1, a missing one too"
unfoldable pub broken_line : List ℕ → Place
broken_line text = cond (whole (walked text)) None (Some (length (walked text).read + 1))

-- an axiom layer other than −1, a condition on an effect, or an axiom
abbrev pub row_bars : Row → List ℕ → Bool
row_bars Metric xs = false
row_bars Layer xs = not (eqb (first_number xs) any_value)
row_bars Value xs = false
row_bars Fact xs = false
row_bars PassedFact xs = false
row_bars Effect xs = ltb 0 (first_number xs)
row_bars Head xs = false
row_bars (Count what) xs =
    elim what [
      | Variables ↦ false
      | Values ↦ false
      | Groups ↦ false
      | GroupFacts ↦ false
      | Facts ↦ false
      | Operators ↦ false
      | Effects ↦ false
      | Axioms ↦ ltb 0 (first_number xs)
      | Conditions ↦ false
    ]

unfoldable pub bars : Due → List ℕ → Bool
bars (keyword k) line = false
bars name line = false
bars (numbers row) line = row_bars row (line_numbers line)

-- 14: the first line that no sheet can say; the first of these entries is line n
unfoldable pub first_barred : ℕ → List Entry → Place
first_barred n [] = None
first_barred n (e ∷ es) = elim (bars e.due e.line) [ true ↦ Some n | false ↦ first_barred (n + 1) es ]

unfoldable pub unsupported_line : List ℕ → Place
unsupported_line text = first_barred 1 (walked text).read

-- "names and mutex groups are passed over", and so are layers and axioms, which a sheet can't say
abbrev pub row_keeps : Row → Bool
row_keeps Metric = true
row_keeps Layer = false
row_keeps Value = true
row_keeps Fact = true
row_keeps PassedFact = false
row_keeps Effect = true
row_keeps Head = false
row_keeps (Count what) =
    elim what [
      | Variables ↦ true
      | Values ↦ true
      | Groups ↦ false
      | GroupFacts ↦ false
      | Facts ↦ true
      | Operators ↦ true
      | Effects ↦ true
      | Axioms ↦ false
      | Conditions ↦ false
    ]

unfoldable pub kept : Due → List ℕ → List ℕ
kept (keyword k) line = []
kept name line = []
kept (numbers row) line = cond (row_keeps row) (line_numbers line) []

-- the numbers of a text, in its order
unfoldable pub kept_of : List Entry → List ℕ
kept_of [] = []
kept_of (e ∷ es) = kept e.due e.line ++ kept_of es

unfoldable pub numbers_of : List ℕ → List ℕ
numbers_of text = kept_of (walked text).read
