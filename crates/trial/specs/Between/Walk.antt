-- The walk along the rest of the current list, from index i on, and the tally of what it strikes. Assumes nothing.
use Rattle.std.specs.Prelude.{ℕ, ◌+◌, ◌≤◌, ◌≡◌, false, cond, ◌&&◌, not, List, ◌++◌, length, get_or, set, take, drop}
use Rattle.sas.specs.Plan.{applicable, apply, cost}
use Rattle.tally.specs.declared.Tally.{Tally}
use Rattle.tally.specs.Tally.{bounds, one_more}
use Rattle.sheet.specs.Layout.{cost_word}
use Rattle.sheet.specs.Decode.{action}
use Rattle.reduction.specs.Reduction.{Reduction, kept}
use Rattle.reduction.specs.Trials.{walk, after}
use Rattle.plan.specs.Valid.{steps}

-- the flags after the walk, and the state
unfoldable pub flags_after : List ℕ → List ℕ → ℕ → Reduction → List ℕ → Reduction
flags_after w l i m s = take i m ++ walk s (steps w (drop i l)) (drop i m)

unfoldable pub state_after : List ℕ → List ℕ → ℕ → Reduction → List ℕ → List ℕ
state_after w l i m s = after s (steps w (drop i l)) (drop i m)

-- a tally that stays within its bounds though all kept steps be added to it
pub record Fits (w l : List ℕ) (m : Reduction) (t : Tally) : Type 0 where
  pub by_cost : t.cost + cost (kept m (steps w l)) ≤ bounds.cost
  pub by_steps : t.steps + length (kept m (steps w l)) ≤ bounds.steps

-- what is struck goes over from the list to the tally
pub record Balanced (w l : List ℕ) (m m' : Reduction) (t t' : Tally) : Type 0 where
  pub by_cost : t'.cost + cost (kept m' (steps w l)) ≡ t.cost + cost (kept m (steps w l))
  pub by_steps : t'.steps + length (kept m' (steps w l)) ≡ t.steps + length (kept m (steps w l))

pub record WalksRest (w l : List ℕ) (i : ℕ) (m : Reduction) (s : List ℕ) (t : Tally)
    (m' : Reduction) (s' : List ℕ) (t' : Tally) : Type 0 where
  pub flags : m' ≡ flags_after w l i m s
  pub state : s' ≡ state_after w l i m s
  pub balanced : Fits w l m t → Balanced w l m m' t t'

-- one turn: a kept step of action a at index j is done, or struck where it can't be
pub record DoesOrStrikes (w : List ℕ) (a j : ℕ) (m : Reduction) (s : List ℕ) (t : Tally)
    (m' : Reduction) (s' : List ℕ) (t' : Tally) : Type 0 where
  pub flags : m' ≡ cond (get_or m j false && not (applicable s (action w a))) (set m j false) m
  pub state : s' ≡ cond (get_or m j false && applicable s (action w a)) (apply s (action w a)) s
  pub tally : t' ≡ cond (get_or m j false && not (applicable s (action w a))) (one_more t (cost_word w a)) t
