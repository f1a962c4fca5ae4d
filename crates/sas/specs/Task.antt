-- A planning task in SAS+. Nothing here knows how a task is written down. Assumes nothing.
use Rattle.std.specs.Prelude.{ℕ, List, []}

-- an assignment of one variable, or fact: the variable, and the value it has
pub record Fact : Type 0 where
  pub variable : ℕ
  pub value : ℕ

-- a partial variable assignment: the list of its facts
abbrev pub Assignment : Type 0
Assignment = List Fact

-- a state, or complete variable assignment: the value of variable v stands at index v
abbrev pub State : Type 0
State = List ℕ

-- an effect: a fact, and the condition under which it is made true, which may be empty
pub record Effect : Type 0 where
  pub condition : Assignment
  pub fact : Fact

-- an effect without a condition
abbrev pub always : Fact → Effect
always f = record { condition = []; fact = f }

-- an action: its precondition, its effects and its cost
pub record Action : Type 0 where
  pub precondition : Assignment
  pub effects : List Effect
  pub cost : ℕ

-- an action that needs nothing and does nothing, at no cost
abbrev pub idle : Action
idle = record { precondition = []; effects = []; cost = 0 }

-- a planning task (V, A, I, G): variable v has the values below its domain size, at index v
pub record Task : Type 0 where
  pub domains : List ℕ
  pub actions : List Action
  pub initial : State
  pub goal : Assignment
