-- `eliminate` meets its contract. The loop's invariant: the flags are what has been eliminated so far, and the state is the one before the next step; a turn finds it struck, strikes by a trial, or does it. Assumes nothing.
use native.Mathlib.Omega.{arith}
use mathlib.Core.Path.{◌∙◌}
use Rattle.step.proofs.StateLaws.{front_initial}
use Rattle.elimination.proofs.EliminateLaws.{eliminates_struck, eliminates_done, eliminates_nothing, eliminating_start, eliminating_more, eliminating_end}
use Rattle.std.proofs.Common.{rules}
use Rattle.elimination.proofs.eliminate.eliminate.Goals as goal

pub loop-i-init : goal.loop-i-init
loop-i-init c = (search rules, eliminating_start _ _ _ _ c.requires.readable.few c.requires.plan_value c.all_kept-flags.ensures (rw c.initial-values.ensures (front_initial _ c.requires.readable.accepted)))

pub bounds-flags-i : goal.bounds-flags-i
bounds-flags-i c = omega (arith, c.requires.readable.few, c.loop-i-test.true)

pub trial-tried-requires : goal.trial-tried-requires
trial-tried-requires c = record { readable = c.requires.readable; i_in_bounds = c.loop-i-test.true }

pub loop-i-preserved-then-tried : goal.loop-i-preserved-then-tried
loop-i-preserved-then-tried c = let turn = c.loop-i.invariant in let so = turn.1 in let here = c.loop-i-test.true in (turn.0, eliminating_more _ _ _ _ _ _ _ so here (eliminates_struck _ _ _ so.current _ _ here so.before _ _ _ c.trial-tried.ensures c.if-not-flags-i.false c.if-tried.true))

pub loop-i-preserved : goal.loop-i-preserved
loop-i-preserved c = let turn = c.loop-i.invariant in let so = turn.1 in let here = c.loop-i-test.true in (c.advance_in.auto.values ∙ turn.0, eliminating_more _ _ _ _ _ _ _ so here (eliminates_done _ _ _ so.current _ _ here so.before _ _ _ _ _ c.if-not-flags-i.false c.trial-tried.ensures c.if-tried.false c.advance_in.ensures))

pub loop-i-preserved-then-not-flags-i : goal.loop-i-preserved-then-not-flags-i
loop-i-preserved-then-not-flags-i c = let turn = c.loop-i.invariant in let so = turn.1 in let here = c.loop-i-test.true in (turn.0, eliminating_more _ _ _ _ _ _ _ so here (eliminates_nothing _ _ _ so.current _ _ here so.before c.if-not-flags-i.true))

pub returns : goal.returns
returns c = eliminating_end _ _ _ _ _ c.loop-i.invariant.1 c.loop-i-test.false
