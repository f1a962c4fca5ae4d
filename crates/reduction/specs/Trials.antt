-- The trial, elimination and greedy elimination (document 01, "The three ways of striking"), as what happens trial by
-- trial and round by round. All strike from a reduction of the lodged list, the current one, so that a step keeps its
-- index however many are struck. Assumes nothing.
use Rattle.std.specs.Prelude.{ℕ, suc, ◌≤◌, ◌≡◌, true, false, not, ◌&&◌, List, [], ◌∷◌, ◌++◌, length, take, drop}
use Rattle.sas.specs.Task.{Assignment, State, Action}
use Rattle.sas.specs.Plan.{satisfies, applicable, apply, cost}
use Rattle.reduction.specs.Reduction.{Reduction, keeps, kept, count, ValidReduction, Before}

-- what a walk along the current list leaves of it: it strikes each step that can't be done where it comes to it
unfoldable pub walk : State → List Action → Reduction → Reduction
walk s [] m = m
walk s (a ∷ p) [] = []
walk s (a ∷ p) (false ∷ m) = false ∷ walk s p m
walk s (a ∷ p) (true ∷ m) = elim (applicable s a) [ true ↦ true ∷ walk (apply s a) p m | false ↦ false ∷ walk s p m ]

-- the state after the walk
unfoldable pub after : State → List Action → Reduction → State
after s [] m = s
after s (a ∷ p) [] = s
after s (a ∷ p) (false ∷ m) = after s p m
after s (a ∷ p) (true ∷ m) = elim (applicable s a) [ true ↦ after (apply s a) p m | false ↦ after s p m ]

-- "Trial at position i: strike step i, walk the rest from the state before i, and strike also each later step that
-- can't be done. The trial succeeds when the goal holds after the whole walk": on the current list m, at index i, it
-- succeeds and leaves x
pub record TrialLeaves (s : State) (goal : Assignment) (p : List Action) (m : Reduction) (i : ℕ) (x : Reduction)
    : Type 0 where
  pub tried : keeps m i
  pub before : State
  pub reached : Before s p m i before
  pub left : x ≡ take i m ++ (false ∷ walk before (drop (suc i) p) (drop (suc i) m))
  pub met : satisfies (after before (drop (suc i) p) (drop (suc i) m)) goal ≡ true

-- the steps that a trial strikes from the current list m, of which it leaves x: those that m keeps and x does not
unfoldable pub struck_from : Reduction → Reduction → Reduction
struck_from [] x = []
struck_from (b ∷ m) [] = b ∷ struck_from m []
struck_from (b ∷ m) (c ∷ x) = (b && not c) ∷ struck_from m x

-- the price of what is struck, and the number of steps
abbrev pub cost_struck : List Action → Reduction → Reduction → ℕ
cost_struck p m x = cost (kept (struck_from m x) p)

abbrev pub steps_struck : Reduction → Reduction → ℕ
steps_struck m x = count (struck_from m x)

module _ (s : State) (goal : Assignment) (p : List Action) where
  -- the trial at index i does not succeed
  abbrev pub TrialFails : Reduction → ℕ → Type 0
  TrialFails m i = (x : Reduction) → TrialLeaves s goal p m i x → ⊥

  -- "Elimination: from position 1, make the trial. On success all its strikes stand, and the next remaining step is
  -- tried from the same state. Otherwise do the step and go on": from index i on of the current list m, which is valid
  -- at every turn, it leaves x
  pub data EliminationLeaves : ℕ → Reduction → Reduction → Type 0 where
    strikes_stand : {i : ℕ} {m n x : Reduction} → ValidReduction s goal p m → TrialLeaves s goal p m i n
        → EliminationLeaves (suc i) n x → EliminationLeaves i m x
    does_step : {i : ℕ} {m x : Reduction} → ValidReduction s goal p m → TrialFails m i
        → EliminationLeaves (suc i) m x → EliminationLeaves i m x
    all_tried : {i : ℕ} {m : Reduction} → ValidReduction s goal p m → length p ≤ i → EliminationLeaves i m m

  -- "Of the successes it takes the largest price struck, then the most steps struck, then the earliest position": a
  -- round on the current list m takes the trial at index i, which leaves x
  pub record Takes (m x : Reduction) (i : ℕ) : Type 0 where
    pub success : TrialLeaves s goal p m i x
    pub largest : (y : Reduction) (j : ℕ) → TrialLeaves s goal p m j y → cost_struck p m y ≤ cost_struck p m x
    pub most : (y : Reduction) (j : ℕ) → TrialLeaves s goal p m j y → cost_struck p m y ≡ cost_struck p m x
        → steps_struck m y ≤ steps_struck m x
    pub earliest : (y : Reduction) (j : ℕ) → TrialLeaves s goal p m j y → cost_struck p m y ≡ cost_struck p m x
        → steps_struck m y ≡ steps_struck m x → i ≤ j

  -- "Greedy elimination: each round makes the trial at every position of the current list. … It ends with a round
  -- without success": from the current list m, which is valid in every round, it leaves x
  pub data GreedyLeaves : Reduction → Reduction → Type 0 where
    takes : {m n x : Reduction} {i : ℕ} → ValidReduction s goal p m → Takes m n i → GreedyLeaves n x
        → GreedyLeaves m x
    without_success : {m : Reduction} → ValidReduction s goal p m → ((i : ℕ) → TrialFails m i) → GreedyLeaves m m

  -- what an elimination does to a valid list: what it leaves is valid, no longer and no dearer
  pub record Shortens (m : Reduction) : Type 0 where
    pub reduction : ValidReduction s goal p m
    pub no_longer : count m ≤ length p
    pub no_dearer : cost (kept m p) ≤ cost p
