-- `walk` meets its contract. The loop's invariant: from the next position on the walk finds what the whole walk finds, and no length changes. Assumes nothing.
use Rattle.plan.proofs.PlanWalkLaws.{along_more, walks_stuck, walks_valid, walks_unmet, along_start}
use mathlib.Core.Path.{refl}
use Rattle.std.proofs.Common.{rules}
use Rattle.plan.proofs.walk.walk.Goals as goal

pub loop-i-init : goal.loop-i-init
loop-i-init c = (refl, rw c.new-tally.ensures (along_start _ _ _))

pub loop-i-preserved : goal.loop-i-preserved
loop-i-preserved c =
    let turn = c in
    let done = c.advance in
    (search rules, rw c.add-tally.ensures (along_more _ _ _ _ _ _ turn.loop-i.invariant.1 _ _ _ c.loop-i-test.true done.ensures c.if-not-advance.false c.cost.ensures.0))

pub returns-then-not-advance : goal.returns-then-not-advance
returns-then-not-advance c = walks_stuck _ _ _ _ _ _ c.loop-i.invariant.1 _ _ c.loop-i-test.true c.advance.ensures c.if-not-advance.true

pub returns-then-goal_holds : goal.returns-then-goal_holds
returns-then-goal_holds c = walks_valid _ _ _ _ _ _ c.loop-i.invariant.1 _ c.loop-i-test.false c.goal_holds.ensures c.if-goal_holds.true

pub returns : goal.returns
returns c = walks_unmet _ _ _ _ _ _ c.loop-i.invariant.1 _ c.loop-i-test.false c.goal_holds.ensures c.if-goal_holds.false
