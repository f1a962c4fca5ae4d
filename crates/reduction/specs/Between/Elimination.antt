-- The two eliminations, computed. That they are those of Trials are the theorems of proofs/trials/TrialTheorem and
-- proofs/trials/EliminationTheorem. Assumes nothing.
use Rattle.std.specs.Prelude.{ℕ, zero, suc, false, cond, ◌&&◌, List, length, get_or, set}
use Rattle.std.proofs.Math.Option
use Rattle.std.proofs.Math.Option.{Option, none, some}
use Rattle.sas.specs.Task.{Assignment, State, Action}
use Rattle.sas.specs.Plan.{satisfies}
use Rattle.reduction.specs.Trials.{walk, after}
use Rattle.reduction.specs.Reduction.{Reduction, kept, whole}
use Rattle.reduction.specs.Between.Order.{lower}

-- "Trial at position i: strike step i, walk the rest from the state before i, and strike also each later step that
-- can't be done. The trial succeeds when the goal holds after the whole walk": what it leaves, if it succeeds. The walk
-- is made from the start: in a valid current list it strikes nothing before i and comes to i in the state before it
-- (`trial_in_words` of proofs/trials/TrialTheorem).
unfoldable pub trial : State → Assignment → List Action → Reduction → ℕ → Option Reduction
trial s goal p m i =
    let struck : Reduction = set m i false in
    cond (get_or m i false && satisfies (after s p struck) goal) (some (walk s p struck)) none

-- "Elimination: from position 1, make the trial. On success all its strikes stand, and the next remaining step is tried
-- from the same state. Otherwise do the step and go on": the current list after the trials at the first n positions
unfoldable pub eliminated : State → Assignment → List Action → ℕ → Reduction
eliminated s goal p zero = whole p
eliminated s goal p (suc n) = let m : Reduction = eliminated s goal p n in Option.get_or (trial s goal p m n) m

unfoldable pub eliminate : State → Assignment → List Action → Reduction
eliminate s goal p = eliminated s goal p (length p)

-- of two successes, perhaps none, the one that leaves the lower list, and the first where they are equal. The trials of
-- a round strike from one list, so the largest price struck is the lowest price left, and the most steps struck the
-- fewest left (`round_in_words` of proofs/trials/TrialTheorem).
unfoldable pub better : List Action → Option Reduction → Option Reduction → Option Reduction
better p none y = y
better p (some m) none = some m
better p (some m) (some n) = cond (lower (kept n p) (kept m p)) (some n) (some m)

-- "each round makes the trial at every position of the current list. Of the successes it takes the largest price
-- struck, then the most steps struck, then the earliest position": of those at the first n positions
unfoldable pub best : State → Assignment → List Action → Reduction → ℕ → Option Reduction
best s goal p m zero = none
best s goal p m (suc n) = better p (best s goal p m n) (trial s goal p m n)

-- "It ends with a round without success": after at most n rounds
unfoldable pub rounds : State → Assignment → List Action → ℕ → Reduction → Reduction
rounds s goal p zero m = m
rounds s goal p (suc n) m = elim (best s goal p m (length p)) [ none ↦ m | some k ↦ rounds s goal p n k ]

-- each round that goes on strikes a step, so there are no more of them than steps
unfoldable pub greedy : State → Assignment → List Action → Reduction
greedy s goal p = rounds s goal p (length p) (whole p)
