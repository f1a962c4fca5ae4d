-- What a planner's text holds (document 02, C-11: Fast Downward's translator output, version 3), as data. Assumes
-- nothing.
use Rattle.std.specs.Prelude.{ℕ, Bool, List}
use Rattle.std.proofs.Math.Option.{Option}
use Rattle.sas.specs.Task.{Assignment}

-- the most bytes of a text
abbrev pub most_bytes : ℕ
most_bytes = 65536

-- a name: the bytes of a line
abbrev pub Name : Type 0
Name = List ℕ

-- a variable: its name, its axiom layer, none for −1, and the names of its values
pub record Variable : Type 0 where
  pub name : Name
  pub layer : Option ℕ
  pub values : List Name

-- what becomes of a variable: `variable old new`, no old value being −1, for "any"
pub record Change : Type 0 where
  pub variable : ℕ
  pub old : Option ℕ
  pub new : ℕ

pub record Effect : Type 0 where
  pub conditions : Assignment
  pub change : Change

pub record Operator : Type 0 where
  pub name : Name
  pub prevail : Assignment
  pub effects : List Effect
  pub cost : ℕ

pub record Axiom : Type 0 where
  pub conditions : Assignment
  pub head : Change

-- a text, section by section: whether the metric is 1, variables, mutex groups, state, goal, operators and axioms
pub record Text : Type 0 where
  pub metric : Bool
  pub variables : List Variable
  pub groups : List Assignment
  pub state : List ℕ
  pub goal : Assignment
  pub operators : List Operator
  pub axioms : List Axiom
