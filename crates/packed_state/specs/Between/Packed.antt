-- A state in bytes, a byte for each variable; and rows, each the facts of an assignment: for each variable whether it
-- has one, and its value. Not to be believed: proofs/RowTheorem says what they tell. Assumes nothing.
use Rattle.std.specs.Prelude.{ℕ, zero, suc, ◌+◌, ◌%◌, ◌≡◌, Bool, true, false, cond, not, ◌&&◌, ◌||◌, List, [], ◌∷◌, map, length, get_or, replicate, eqb}
use Rattle.sas.specs.Task.{Fact}
use Rattle.sas.specs.Between.WellFormed.{Known}
use Rattle.reduction.specs.Reduction.{Reduction}
use Rattle.reduction.specs.Between.Course.{held}
use Rattle.sheet.specs.Limits.{limits}
use Rattle.sheet.specs.Decode.{domains, initial}
use Rattle.plan.specs.Valid.{steps}
use Rattle.packed_state.specs.declared.packed.Row.{Row}

-- the bytes of a state
abbrev pub state_bytes : ℕ
state_bytes = limits.variables

-- a row without facts
abbrev pub no_row : Row
no_row = record { asked = replicate state_bytes false; values = replicate state_bytes 0 }

-- whether a row has a fact of variable v, and its value
abbrev pub asks_at : Row → ℕ → Bool
asks_at row v = get_or row.asked v false

abbrev pub value_at : Row → ℕ → ℕ
value_at row v = get_or row.values v 0

-- a variable has the value that it is asked for, if it is
abbrev pub meeting : Bool → ℕ → ℕ → Bool
meeting asked value has = not asked || eqb has value

-- the value that a row gives a variable
abbrev pub taking : Bool → ℕ → ℕ → ℕ
taking asked value has = cond asked value has

-- the first n variables have what a row asks for
unfoldable pub has_first : Row → List ℕ → ℕ → Bool
has_first row state zero = true
has_first row state (suc v) = has_first row state v && meeting (asks_at row v) (value_at row v) (get_or state v 0)

-- all have
abbrev pub has_all : Row → List ℕ → Bool
has_all row state = has_first row state state_bytes

-- the values of n variables from v on with a row written over them
unfoldable pub written_from : Row → List ℕ → ℕ → ℕ → List ℕ
written_from row state v zero = []
written_from row state v (suc n) =
    taking (asks_at row v) (value_at row v) (get_or state v 0) ∷ written_from row state (v + 1) n

-- a state with a row written over it
abbrev pub written_over : Row → List ℕ → List ℕ
written_over row state = written_from row state 0 state_bytes

-- values in bytes
abbrev pub packed_start : List ℕ → List ℕ
packed_start values = map (λ x. x % limits.values) values

-- the bytes b are those of the state before index i, as what m keeps before it makes it: they tell of each known fact
-- whether it holds
pub record TellsState (w l : List ℕ) (m : Reduction) (i : ℕ) (b : List ℕ) : Type 0 where
  pub sized : length b ≡ state_bytes
  pub tells : (f : Fact) → Known (domains w) f
      → eqb (get_or b f.variable 0) f.value ≡ held (initial w) (steps w l) m f i
