-- Every step that document 01's rule marks is still marked: the start step is the earlier one of its link, since the starting values don't hold the fact and so
-- give its variable another value. By induction on the older rule. Assumes nothing.
use Prim.Native.Nat.{ℕ, zero, suc, ◌≤◌, ◌<◌}
use native.Mathlib.Omega.{arith}
use mathlib.Core.Path.{◌≡◌, ap}
use mathlib.Core.Logic.{◌≢◌}
use mathlib.Core.Bool.{false}
use mathlib.Core.List.{List}
use lib.ListN.{length}
use Rattle.sas.specs.Task.{Fact, Assignment, State, Action}
use Rattle.sas.specs.Plan.{holds, may_write, needs}
use Rattle.sas.proofs.WellFormedLaws.{ActionsFormed}
use Rattle.reduction.specs.Landmark.{step, framed, Link, Landmark}
use Rattle.reduction.specs.Landmark.Marked.{start_marked, end_marked, linked}
use Rattle.reduction.specs.OlderRule.{SoleWriter, OlderMarked}
use Rattle.reduction.specs.OlderRule.OlderMarked.{for_goal, for_step}
use Rattle.reduction.proofs.turns.HeldLaws.{each_step}
use Rattle.reduction.proofs.marks.FrameLaws.{framed_start, framed_step, framed_end, start_other, goal_end_needs}

module _ {domains : List ℕ} (s : State) (goal : Assignment) (p : List Action) (formed : ActionsFormed domains p) (sized : length s ≡ length domains) where
  -- the only writer of a fact before a position that needs it is linked through the start
  sole_link : {i : ℕ} {f : Fact} (z : ℕ) → z ≤ length p → holds s f ≡ false → SoleWriter p z f i → needs (step (framed s goal p) (suc z)) f
      → Link (framed s goal p) 0 (suc i) (suc z) f
  sole_link {i} {f} z few unheld sole need =
      let inside : i < length p = omega (arith, sole.before) in
      let below : f.variable < length s = omega (arith, ((each_step formed i inside).known f sole.writes).variable) in
      record {
        earlier = omega arith;
        later = omega (arith, sole.before);
        needed_later = need;
        written_here = rw (framed_step s goal p i inside) sole.writes;
        other_earlier = rw (framed_start s goal p) (start_other s f below unheld);
        no_other = alone;
      }
    where
      alone : (x : ℕ) → 0 < x → x < suc z → x ≢ suc i → may_write (step (framed s goal p) x) f → ⊥
      alone zero above under other = absurd (omega arith)
      alone (suc y) above under other = rw (framed_step s goal p y (omega arith)) (sole.alone y (omega arith) (λ same. other (ap suc same)))

  pub older_still_marked : {i : ℕ} → OlderMarked (holds s) goal p i → Landmark s goal p i
  older_still_marked (for_goal {i = i} unheld sole member) = (
    sole.before,
    linked start_marked end_marked (sole_link (length p) (omega arith) unheld sole (rw (framed_end s goal p) (goal_end_needs goal member))),
  )
  older_still_marked (for_step {i = i} {j = j} unheld sole need later) =
      let (inside, marked) = older_still_marked later in (
        omega (arith, sole.before),
        linked start_marked marked (sole_link j (omega arith) unheld sole (rw (framed_step s goal p j inside) need)),
      )
