-- `round` meets its contract. The loop's invariant: the best so far is that of the positions passed, and the state is the one before the next. Assumes nothing.
use Rattle.elimination.proofs.PickLaws.{looks_kept, looks_struck}
use Rattle.elimination.proofs.GreedyLaws.{looks_all, looks_start}
use native.Mathlib.Omega.{arith}
use mathlib.Core.Path.{refl, ◌∙◌}
use Rattle.step.proofs.StateLaws.{front_initial}
use Rattle.std.proofs.Common.{rules}
use Rattle.elimination.proofs.greedy.round.Goals as goal

pub loop-i-init : goal.loop-i-init
loop-i-init c =
    let accepted = c.requires.readable.accepted in
    (search rules, (search rules, looks_start _ _ _ _ _ refl (rw c.initial-values.ensures (front_initial _ accepted))))

pub bounds-flags-i : goal.bounds-flags-i
bounds-flags-i c = omega (arith, c.requires.readable.few, c.loop-i-test.true)

pub trial-requires : goal.trial-requires
trial-requires c = record { readable = c.requires.readable; i_in_bounds = c.loop-i-test.true }

pub loop-i-preserved : goal.loop-i-preserved
loop-i-preserved c = let entry = c in (search rules, (c.advance_in.auto.values ∙ c.loop-i.invariant.1.0, looks_kept _ _ entry.requires.readable _ entry.requires.current _ _ c.loop-i-test.true c.loop-i.invariant.1.1.before _ _ _ _ _ c.loop-i.invariant.1.1.picks c.trial.ensures c.if-not-flags-i.false c.better-best.ensures c.advance_in.ensures))

pub loop-i-preserved-then-not-flags-i : goal.loop-i-preserved-then-not-flags-i
loop-i-preserved-then-not-flags-i c = let entry = c in (search rules, (c.loop-i.invariant.1.0, looks_struck _ _ entry.requires.readable _ entry.requires.current _ _ c.loop-i-test.true c.loop-i.invariant.1.1.before _ c.loop-i.invariant.1.1.picks c.if-not-flags-i.true))

pub returns : goal.returns
returns c = looks_all _ _ _ _ _ _ c.loop-i.invariant.1.1 c.loop-i.invariant.0 c.loop-i-test.false
