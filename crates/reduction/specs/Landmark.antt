-- Which steps of a plan are marked, as landmarks (document 02, C-12, from source document 004, definition 12). That
-- every valid reduction keeps them is `landmark_kept` of proofs/marks/LandmarksKept. Positions are document 01's, from
-- 1, and the start step's is 0; a step at position k stands at index k − 1 of the list. Assumes nothing.
use Rattle.std.specs.Prelude.{ℕ, suc, ◌<◌, ◌≡◌, ◌≢◌, List, [], ◌∷◌, ◌++◌, map, length, get_or}
use Rattle.sas.specs.Task.{Fact, Assignment, State, always, Action, idle}
use Rattle.sas.specs.Plan.{may_write, always_writes, needs}

-- the step at index i of a list; past its end one that needs nothing and does nothing
abbrev pub step : List Action → ℕ → Action
step p i = get_or p i idle

-- the facts that a state holds, from variable v on
unfoldable pub values_from : ℕ → State → Assignment
values_from v [] = []
values_from v (x ∷ s) = record { variable = v; value = x } ∷ values_from (suc v) s

-- "a start step that writes all starting values and an end step that needs the goal"
abbrev pub start_step : State → Action
start_step s = record { precondition = []; effects = map always (values_from 0 s); cost = 0 }

abbrev pub end_step : Assignment → Action
end_step goal = record { precondition = goal; effects = []; cost = 0 }

-- a list with both: position 0 is the start step, and the one behind the list's last step is the end step
unfoldable pub framed : State → Assignment → List Action → List Action
framed s goal p = start_step s ∷ (p ++ (end_step goal ∷ []))

-- a step writes another value to the variable of f, and with no condition (document 02, C-15): one that only may write
-- it can leave f as it was, and then no step need make f true again
abbrev pub WritesOther : Action → Fact → Type 0
WritesOther a f = (g : Fact) × always_writes a g × (g.variable ≡ f.variable) × (g.value ≢ f.value)

-- what marks step k, where steps i and j are marked: "a later marked step needs a fact f of k's effects, an earlier
-- marked step writes another value to that variable, and no step but k between those two writes f". Every effect counts
-- as a possible writer, whatever its condition. A condition is no need: where it fails the step can still be done, and
-- what it would have written may not be needed. With either restriction left out a mark would be unsound: `starred` has
-- a list for each.
pub record Link (q : List Action) (i k j : ℕ) (f : Fact) : Type 0 where
  pub earlier : i < k
  pub later : k < j
  pub needed_later : needs (step q j) f
  pub written_here : may_write (step q k) f
  pub other_earlier : WritesOther (step q i) f
  pub no_other : (x : ℕ) → i < x → x < j → x ≢ k → may_write (step q x) f → ⊥

-- the marked positions of a list p: "Only steps reached from those two by this rule are marked"
pub data Marked (s : State) (goal : Assignment) (p : List Action) : ℕ → Type 0 where
  start_marked : Marked s goal p 0
  end_marked : Marked s goal p (suc (length p))
  linked : {i k j : ℕ} {f : Fact} → Marked s goal p i → Marked s goal p j → Link (framed s goal p) i k j f
      → Marked s goal p k

-- the step at index i of the list is marked; start and end are none of its steps, and not counted
abbrev pub Landmark : State → Assignment → List Action → ℕ → Type 0
Landmark s goal p i = (i < length p) × Marked s goal p (suc i)

-- the rounds in which marks are reached: start and end are of round 0, and round r has the steps for which the rule
-- holds with steps of earlier rounds only
pub data InRound (s : State) (goal : Assignment) (p : List Action) : ℕ → ℕ → Type 0 where
  start_first : InRound s goal p 0 0
  end_first : InRound s goal p 0 (suc (length p))
  linked_in : {a b r i k j : ℕ} {f : Fact} → a < r → b < r → InRound s goal p a i → InRound s goal p b j
      → Link (framed s goal p) i k j f → InRound s goal p r k
