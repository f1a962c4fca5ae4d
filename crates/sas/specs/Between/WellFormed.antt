-- A well-formed task: its facts are of known variables and values, a condition names each variable once, and no action
-- has effects that conflict. Plain actions, which write each variable once. Assumes nothing.
use Rattle.std.specs.Prelude.{ℕ, suc, ◌≤◌, ◌<◌, ◌≡◌, false, length, get_or}
use mathlib.Core.List.{List, [], ◌∷◌, map, Memᴰ}
use Rattle.sas.specs.Task.{Fact, Assignment, State, Effect, always, Action, Task}
use Rattle.sas.specs.Plan.{written, may_write}
use Rattle.sas.specs.Conflict.{conflicting}

-- a fact of a variable that has a domain, at a value in it
pub record Known (domains : List ℕ) (f : Fact) : Type 0 where
  pub variable : f.variable < length domains
  pub value : f.value < get_or domains f.variable 0

-- an assignment of known facts whose variables rise strictly, the first being `from` or above
pub data Rising (domains : List ℕ) : ℕ → Assignment → Type 0 where
  empty : {from : ℕ} → Rising domains from []
  fact : {from : ℕ} {f : Fact} {q : Assignment} → Known domains f → from ≤ f.variable
      → Rising domains (suc f.variable) q → Rising domains from (f ∷ q)

-- a state within the domains: it has just the task's variables, each at a value of its domain
pub record Within (domains : List ℕ) (s : State) : Type 0 where
  pub complete : length s ≡ length domains
  pub below : (v : ℕ) → v < length domains → get_or s v 0 < get_or domains v 0

-- no two facts of a list give one variable different values
abbrev pub Agreeing : Assignment → Type 0
Agreeing e = (f g : Fact) → Memᴰ f e → Memᴰ g e → f.variable ≡ g.variable → f.value ≡ g.value

-- an action over the domains: its precondition and its effects' conditions are assignments over them, what it may write
-- is known, and no two of its effects conflict
pub record ActionFormed (domains : List ℕ) (a : Action) : Type 0 where
  pub precondition : Rising domains 0 a.precondition
  pub conditions : (e : Effect) → Memᴰ e a.effects → Rising domains 0 e.condition
  pub known : (f : Fact) → may_write a f → Known domains f
  pub consistent : conflicting a ≡ false

-- a plain action: it writes all that it may write wherever it is applied, and each variable once. What is told of a
-- fact without the state, and what is told of an action's facts by a byte for each variable, is told of plain ones.
pub record Plain (domains : List ℕ) (a : Action) : Type 0 where
  pub without_condition : a.effects ≡ map always (written a)
  pub rising : Rising domains 0 (written a)

pub record WellFormed (T : Task) : Type 0 where
  pub initial : Within T.domains T.initial
  pub goal : Rising T.domains 0 T.goal
  pub actions : (a : Action) → Memᴰ a T.actions → ActionFormed T.domains a
