-- `close` meets its contract: one position more, or the walk has come to the start step. Assumes nothing.
use Prim.Native.Nat.{◌+◌, ◌-◌}
use native.Mathlib.Omega.{arith}
use mathlib.Core.Path.{◌≡◌}
use Rattle.landmark.proofs.CloseLaws.{closing_end, closing_more, closing_start}
use Rattle.landmark.proofs.walks.close.Goals as goal

pub loop-i-init : goal.loop-i-init
loop-i-init c = closing_end _ _ _ _

pub loop-i-preserved : goal.loop-i-preserved
loop-i-preserved c =
    let here : c.loop-i.i - 1 + 1 ≡ c.loop-i.i = omega (arith, c.loop-i-test.true) in
    closing_more _ _ _ _ _ _ c.loop-i.invariant _ _ c.loop-i-test.true c.needs_at.ensures (rw (here, c.facts.ensures) at c.raise_marked.ensures)

pub returns : goal.returns
returns c = closing_start _ _ _ _ _ _ c.loop-i.invariant c.loop-i-test.false
