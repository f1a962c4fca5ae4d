-- `follow` meets its contract. The loop's invariant: from the next step on the walk writes what the whole walk writes. Assumes nothing.
use mathlib.Core.Path.{◌≡◌, refl, ◌∙◌}
use lib.ListN.{length}
use native.Mathlib.Omega.{arith}
use Rattle.course.proofs.CourseLaws.{going_start, going_more, follows_stuck, follows_over}
use Rattle.course.proofs.follow.Goals as goal

pub loop-i-init : goal.loop-i-init
loop-i-init c = going_start _ _ _ _

pub loop-i-preserved : goal.loop-i-preserved
loop-i-preserved c =
    let loop = c.loop-i in
    going_more _ _ _ _ _ _ _ _ _ loop.invariant c.put_state.ensures c.loop-i-test.true _ _ c.advance.ensures _ refl c.requires.1 c.if-not-advance.false (c.put_state.auto.states ∙ loop.invariant.room)

pub returns-then-not-advance : goal.returns-then-not-advance
returns-then-not-advance c =
    let loop = c.loop-i in
    follows_stuck _ _ _ _ _ _ _ _ _ loop.invariant c.put_state.ensures c.loop-i-test.true _ _ c.advance.ensures c.if-not-advance.true

pub returns : goal.returns
returns c =
    let last : length c.args.plan.now ≡ c.loop-i.i = omega (arith, c.loop-i-test.false, c.loop-i.invariant.reached) in
    rw last (follows_over _ _ _ _ _ _ _ _ _ c.loop-i.invariant c.put_state-2.ensures c.loop-i-test.false)
