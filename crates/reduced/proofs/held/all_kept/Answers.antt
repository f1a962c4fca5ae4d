-- `all_kept` meets its contract. The loop's invariant: the first i flags are up. Assumes nothing.
use Prim.Native.Nat.{◌<◌, min}
use native.Mathlib.Omega.{arith}
use mathlib.Core.Path.{◌≡◌, refl, ◌∙◌}
use Rattle.plan.specs.Limits.{most_steps}
use Rattle.reduced.proofs.HeldLaws.{raised_more, all_raised}
use Rattle.reduced.proofs.held.all_kept.Goals as goal

pub loop-i-init : goal.loop-i-init
loop-i-init c = refl

pub loop-i-preserved : goal.loop-i-preserved
loop-i-preserved c =
    let room : c.loop-i.i < most_steps = omega (arith, c.loop-i-test.true, c.min-i-end.ensures) in
    rw c.loop-i.invariant (raised_more 255 c.loop-i.i room)

pub returns : goal.returns
returns c =
    let all : c.loop-i.i ≡ min c.args.n most_steps = omega (arith, c.loop-i-test.false, c.loop-i.auto.i-end, c.min-i-end.ensures) in
    c.loop-i.invariant ∙ rw all (all_raised c.args.n)
