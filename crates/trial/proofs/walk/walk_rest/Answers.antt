-- `walk_rest` meets its contract. The loop's invariant: from the next index on the walk ends as it was to end. Assumes nothing.
use native.Mathlib.Omega.{arith}
use mathlib.Core.Path.{refl, ◌∙◌}
use Rattle.trial.proofs.TrialWalkLaws.{turns_skip, along_start, along_turn, along_walks}
use Rattle.std.proofs.Common.{rules}
use Rattle.trial.proofs.walk.walk_rest.Goals as goal

pub loop-j-init : goal.loop-j-init
loop-j-init c = (refl, along_start _ _ _ _ _ _)

pub bounds-flags-j : goal.bounds-flags-j
bounds-flags-j c = omega (arith, c.loop-j.invariant.1.long, c.requires, c.loop-j-test.true)

pub do_or_strike-tally-requires : goal.do_or_strike-tally-requires
do_or_strike-tally-requires c = (c.if-not-flags-j.false, search rules)

pub loop-j-preserved : goal.loop-j-preserved
loop-j-preserved c =
    let done = c.do_or_strike-tally in (
      done.auto.state ∙ c.loop-j.invariant.0,
      along_turn _ _ _ _ _ _ _ _ _ _ c.loop-j.invariant.1 _ _ _ c.requires.0
          c.loop-j-test.true done.auto.flags done.ensures,
    )

pub loop-j-preserved-then-not-flags-j : goal.loop-j-preserved-then-not-flags-j
loop-j-preserved-then-not-flags-j c = (
  c.loop-j.invariant.0,
  along_turn _ _ _ _ _ _ _ _ _ _ c.loop-j.invariant.1 _ _ _ c.requires.0 c.loop-j-test.true refl
      (turns_skip _ _ _ _ _ _ c.if-not-flags-j.true),
)

pub shape_of-flags : goal.shape_of-flags
shape_of-flags c = c.loop-j.invariant.1.long

pub shape_of-state : goal.shape_of-state
shape_of-state c = c.loop-j.invariant.0

pub returns : goal.returns
returns c = along_walks _ _ _ _ _ _ _ _ _ _ c.loop-j.invariant.1 c.loop-j-test.false
