-- What facts say of the variables, as a table with a value for each: `assign` notes facts in it. Assumes nothing.
use Rattle.std.specs.Prelude.{ℕ, Bool, not, ◌&&◌, get_or, replicate, eqb}
use Rattle.sas.specs.Task.{Fact, State}
use Rattle.sheet.specs.Limits.{limits}

-- what stands where nothing is said: no value is as large
abbrev pub unsaid : ℕ
unsaid = limits.values

-- the table in which nothing is said yet
abbrev pub blank : State
blank = replicate limits.variables unsaid

-- a table has another value for the variable of a fact
unfoldable pub denies : State → Fact → Bool
denies t f = not (eqb (get_or t f.variable 0) unsaid) && not (eqb (get_or t f.variable 0) f.value)
