-- `find_failing` meets its contract. The loop's invariant: the last failing fact of those that are left is that of all. Assumes nothing.
use mathlib.Core.Path.{◌≡◌}
use lib.ListN.{length}
use Rattle.sheet.specs.Between.Group.{group_left}
use Rattle.step.specs.Between.Failing.{last_failing}
use Rattle.step.proofs.facts.find_failing.Given as goal

abbrev pub invariant-loop-fact : goal.invariant-loop-fact
invariant-loop-fact l = last_failing l.state (group_left l.facts) ≡ last_failing l.state (group_left l.initial.facts)

abbrev pub decreases-loop-fact : goal.decreases-loop-fact
decreases-loop-fact l = length (group_left l.facts)
