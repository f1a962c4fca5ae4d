-- Where a search stands that passes over flagged steps: which facts hold before a step is told by what was decided
-- before it, and the flagged steps need no test of their own. Not to be believed: proofs/turns/CourseLaws shows that
-- the search stays on this course. Assumes nothing.
use Rattle.std.specs.Prelude.{ℕ, zero, suc, ◌≡◌, Bool, true, false, cond, not, ◌&&◌, ◌||◌, List, length, get_or, drop, eqb}
use Rattle.sas.specs.Task.{Fact, Assignment, State, Action}
use Rattle.sas.specs.Plan.{holds, written}
use Rattle.reduction.specs.Reduction.{Reduction}
use Rattle.reduction.specs.Landmark.{step}
use Rattle.reduction.specs.Between.Wanted.{has, wanted}
use Rattle.sas.specs.Conflict.{some_of}
use Rattle.reduction.specs.Between.Search.{Visit}
use Rattle.reduction.specs.Between.Sound.{Visited}

-- an action may write the variable of a fact
unfoldable pub touches : Action → Fact → Bool
touches a f = some_of (λ g. eqb g.variable f.variable) (written a)

-- whether a fact holds after an action is done, by whether it held before
unfoldable pub held_after : Action → Fact → Bool → Bool
held_after a f before = has (written a) f || not (touches a f) && before

-- whether a fact holds before index i when the steps that m keeps are done from s: that is up to the last of them that
-- may write its variable
unfoldable pub held : State → List Action → Reduction → Fact → ℕ → Bool
held s p m f zero = holds s f
held s p m f (suc i) =
    cond (get_or m i false) (held_after (step p i) f (held s p m f i)) (held s p m f i)

-- a visit on course: it is one as a search makes it, each fact that is wanted from its index on holds there, and which
-- facts hold is told by what is kept so far
pub record OnCourse (goal : Assignment) (s : State) (p : List Action) (flags : Reduction) (v : Visit) : Type 0 where
  pub visited : Visited s p flags v
  pub supplied : (f : Fact) → wanted goal (drop v.index p) (drop v.index flags) f ≡ true
      → holds v.state f ≡ true
  pub told : (f : Fact) → holds v.state f ≡ held s p v.so_far f v.index
  pub sized : length v.state ≡ length s
