-- The search of a minimal reduction by a striking turn and a keeping turn (document 01, "The three ways of striking"),
-- over whatever tests it is told. Not to be believed: proofs/turns/SearchTheorem ties it to Minimal, for tests that are
-- sound (specs/Sound). Assumes nothing.
use Rattle.std.specs.Prelude.{ℕ, ◌+◌, Bool, true, false, cond, not, ◌&&◌, List, [], ◌∷◌, get_or, set}
use Rattle.sas.specs.Task.{State, Action}
use Rattle.sas.specs.Plan.{applicable, apply}
use Rattle.reduction.specs.Reduction.{Reduction, kept, whole}
use Rattle.reduction.specs.Between.Order.{lower}

-- what a turn sees where it comes to a step: the step's index and the state there; what is kept so far, that is, what
-- was decided before the index and from it on the flagged steps; and the best reduction found before
pub record Visit : Type 0 where
  pub index : ℕ
  pub state : State
  pub so_far : Reduction
  pub best : Reduction

-- the next step's visit where this one is struck
abbrev pub struck : Visit → Visit
struck v = record { index = v.index + 1; state = v.state; so_far = v.so_far; best = v.best }

-- and where it is kept, being a
abbrev pub done : Action → Visit → Visit
done a v =
    record {
      index = v.index + 1;
      state = apply v.state a;
      so_far = set v.so_far v.index true;
      best = v.best;
    }

-- the same visit with the best that another turn found
abbrev pub handed : Visit → Reduction → Visit
handed v b = record { index = v.index; state = v.state; so_far = v.so_far; best = b }

-- what the search is told: the flagged steps, which have only the keeping turn; which states will do after the last
-- step; and the cuts, which say where a step may be struck and where it may be kept
pub record Tests : Type 0 where
  pub flags : Reduction
  pub ends : State → Bool
  pub may_strike : Visit → Bool
  pub may_keep : Visit → Bool

pub data Turn : Type 0 where
  strike : Turn
  keep : Turn

-- One turn at a visit of the plan p, of which `rest` are the steps from its index on: it returns the best reduction,
-- the visit's until a lower one is found. Where it goes on, striking goes before keeping, which is handed the best. At
-- the end of the plan the striking turn takes what is kept.
unfoldable pub turn : Tests → List Action → Turn → List Action → Visit → Reduction
turn T p strike [] v = cond (lower (kept v.so_far p) (kept v.best p) && T.ends v.state) v.so_far v.best
turn T p keep [] v = v.best
turn T p strike (a ∷ q) v =
    elim (not (get_or T.flags v.index false) && T.may_strike v) [
      | true ↦ turn T p keep q (handed (struck v) (turn T p strike q (struck v)))
      | false ↦ v.best
    ]
turn T p keep (a ∷ q) v =
    elim (applicable v.state a && T.may_keep v) [
      | true ↦ turn T p keep q (handed (done a v) (turn T p strike q (done a v)))
      | false ↦ v.best
    ]

-- the first visit: the flagged steps are kept so far, and the lodged plan is the best
abbrev pub first_visit : Tests → State → List Action → Visit
first_visit T s p = record { index = 0; state = s; so_far = T.flags; best = whole p }

-- both turns from the first step on
unfoldable pub search : Tests → State → List Action → Reduction
search T s p = turn T p keep p (handed (first_visit T s p) (turn T p strike p (first_visit T s p)))

-- A cut: a step is kept only where what is then kept, the flagged steps to come among it, is lower than the best.
unfoldable pub bound : List Action → Visit → Bool
bound p v = lower (kept (set v.so_far v.index true) p) (kept v.best p)

-- two cuts at once
abbrev pub both : (Visit → Bool) → (Visit → Bool) → Visit → Bool
both x y v = x v && y v
