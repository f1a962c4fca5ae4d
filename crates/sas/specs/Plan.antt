-- What an action does to a state, and what a plan is. Assumes nothing.
use Rattle.std.specs.Prelude.{ℕ, ◌+◌, ◌≡◌, Bool, true, false, ◌&&◌, length, get_or, set, ltb, eqb}
use Rattle.std.proofs.Math.Option.{Option, none, some}
use mathlib.Core.List.{List, [], ◌∷◌, ◌++◌, map, Memᴰ}
use Rattle.sas.specs.Task.{Fact, Assignment, State, Effect, Action, Task}

-- a fact holds in a state: the state has its variable, at its value
unfoldable pub holds : State → Fact → Bool
holds s f = ltb f.variable (length s) && eqb (get_or s f.variable 0) f.value

-- the facts that an action may make true: those of its effects, whatever their conditions. Above this crate few
-- definitions look into an effect: they speak of these facts and of those needed, by the laws of proofs/ActionLaws.
unfoldable pub written : Action → Assignment
written a = map (λ e. e.fact) a.effects

-- the facts of those effects that have no condition
unfoldable pub unconditional : List Effect → Assignment
unconditional [] = []
unconditional (e ∷ es) = elim e.condition [ [] ↦ e.fact ∷ unconditional es | f ∷ q ↦ unconditional es ]

-- the facts that an action makes true wherever it is applied
unfoldable pub written_always : Action → Assignment
written_always a = unconditional a.effects

-- the facts that must hold where an action is applied: those of its precondition
unfoldable pub needed : Action → Assignment
needed a = a.precondition

abbrev pub may_write : Action → Fact → Type 0
may_write a f = Memᴰ f (written a)

abbrev pub always_writes : Action → Fact → Type 0
always_writes a f = Memᴰ f (written_always a)

abbrev pub needs : Action → Fact → Type 0
needs a f = Memᴰ f (needed a)

-- an assignment holds in a state: every fact of it does
unfoldable pub satisfies : State → Assignment → Bool
satisfies s [] = true
satisfies s (f ∷ q) = holds s f && satisfies s q

-- the first fact of an assignment, in the order that it is written in, that does not hold in a state. No definition
-- here rests on an order: an assignment holds just where no fact fails (`none_fails` of proofs/FactLaws).
unfoldable pub first_failing : State → Assignment → Option Fact
first_failing s [] = none
first_failing s (f ∷ q) = elim (holds s f) [ true ↦ first_failing s q | false ↦ some f ]

-- an action is applicable in a state: its precondition holds there
unfoldable pub applicable : State → Action → Bool
applicable s a = satisfies s a.precondition

-- the state in which each variable of an assignment has the value that it names, and every other one its old value
unfoldable pub assign : State → Assignment → State
assign s [] = s
assign s (f ∷ e) = assign (set s f.variable f.value) e

-- the facts of those effects that act in a state, whose conditions hold there
unfoldable pub acting : State → List Effect → Assignment
acting s [] = []
acting s (e ∷ es) = elim (satisfies s e.condition) [ true ↦ e.fact ∷ acting s es | false ↦ acting s es ]

-- the state that an action makes of a state: all conditions are read there, then all acting facts are assigned. In
-- which order does not matter, since no two of them disagree (`acting_agrees` of proofs/ActionLaws).
unfoldable pub apply : State → Action → State
apply s a = assign s (acting s a.effects)

-- γ(s, a), the result of an action: undefined where the action is not applicable
unfoldable pub result : State → Action → Option State
result s a = elim (applicable s a) [ true ↦ some (apply s a) | false ↦ none ]

-- γ(s, ⟨a₁, …, aₙ⟩), the result of a sequence of actions
unfoldable pub run : State → List Action → Option State
run s [] = some s
run s (a ∷ p) = elim (result s a) [ none ↦ none | some t ↦ run t p ]

-- a plan: a sequence of the task's actions, applicable in turn from the initial state, after which the goal holds
pub record Plan (T : Task) (p : List Action) : Type 0 where
  pub known : (a : Action) → Memᴰ a p → Memᴰ a T.actions
  pub end : State
  pub reached : run T.initial p ≡ some end
  pub goal : satisfies end T.goal ≡ true

-- the action at position i of p, counted from 1, can't be applied after those before it, which can
pub record Stuck (s : State) (p : List Action) (i : ℕ) : Type 0 where
  pub earlier : List Action
  pub here : Action
  pub later : List Action
  pub before : State
  pub parts : p ≡ earlier ++ (here ∷ later)
  pub position : i ≡ length earlier + 1
  pub reached : run s earlier ≡ some before
  pub not_applicable : applicable before here ≡ false

-- every action of p can be applied in turn, but the goal does not hold after the last
pub record Unmet (goal : Assignment) (s : State) (p : List Action) : Type 0 where
  pub end : State
  pub reached : run s p ≡ some end
  pub goal_fails : satisfies end goal ≡ false

-- the cost of a sequence of actions: the sum of their costs
unfoldable pub cost : List Action → ℕ
cost [] = 0
cost (a ∷ p) = a.cost + cost p
