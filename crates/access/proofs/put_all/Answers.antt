-- `put_all` meets its contract: where the loop ends nothing is left to store, or no room is. Assumes nothing.
use native.Mathlib.Omega.{arith}
use Rattle.std.proofs.Common.{◌≤◌, sym, ◌∙◌, length}
use Prim.Native.Nat.{min}
use Rattle.access.proofs.StoreLaws.{rest_or_room_over}
use Rattle.access.proofs.put_all.Goals as goal

pub returns : goal.returns
returns g c =
    let loop = c.loop-i in
    let values = c.args.values.now in
    let over : min (length loop.elements) (length values) ≤ loop.i = omega (arith, c.loop-i-test.false, c.min-n.ensures, loop.invariant.1) in
    sym (rest_or_room_over loop.elements values loop.i over) ∙ loop.invariant.0
