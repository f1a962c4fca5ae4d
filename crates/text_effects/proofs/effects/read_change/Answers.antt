-- `read_change` meets its contract: a law for each way to a return, by what stands behind its numbers. Assumes nothing.
use native.Mathlib.Omega.{arith}
use mathlib.Core.Path.{refl}
use Prim.Native.Nat.{◌+◌}
use lib.ListN.{set, length-set}
use Rattle.text_effects.proofs.EffectLaws.{change_ended, change_old_ended, change_on, change_ahead, change_read}
use Rattle.text_effects.proofs.effects.read_change.Goals as goal

pub returns-in_err-variable : goal.returns-in_err-variable
returns-in_err-variable c = rw c.from_residual.ensures (change_ended _ c.in_err-variable.ensures)

pub returns-in_err-old : goal.returns-in_err-old
returns-in_err-old c = rw c.from_residual-in_err-old.ensures (change_old_ended _ _ c.in_ok-variable.ensures c.in_err-old.ensures)

pub returns-in_err-new : goal.returns-in_err-new
returns-in_err-new c =
    rw c.from_residual-in_err-new.ensures (change_on _ _ c.in_ok-variable.ensures _ c.in_ok-old.ensures c.in_err-new.ensures)

pub bounds-tape-from-3 : goal.bounds-tape-from-3
bounds-tape-from-3 c =
    let ahead = change_ahead _ _ c.in_ok-variable.ensures _ c.in_ok-old.ensures _ c.in_ok-new.ensures in
    let first = length-set c.args.tape.now c.args.from c.in_ok-variable.variable.value in
    let second = length-set (set c.args.tape.now c.args.from c.in_ok-variable.variable.value) (c.args.from + 1) c.in_ok-old.old.value in
    omega (arith, ahead, c.requires, first, second)

pub returns : goal.returns
returns c = change_read _ _ c.in_ok-variable.ensures _ c.in_ok-old.ensures _ c.in_ok-new.ensures _ _ _ _ _ refl refl refl
