-- `greedy` meets its contract. The loop's invariant: the rounds that are left lead to what all rounds lead to. Assumes nothing.
use Rattle.elimination.proofs.GreedyLaws.{rounding_start, rounding_more, rounding_ends, rounding_over}
use Rattle.elimination.proofs.greedy.greedy.Goals as goal

pub loop-rounds-init : goal.loop-rounds-init
loop-rounds-init c = rounding_start _ _ _ c.requires.readable.few c.requires.plan_value c.all_kept-flags.ensures

pub round-best-requires : goal.round-best-requires
round-best-requires c = record { readable = c.requires.readable; current = c.loop-rounds.invariant.current }

pub loop-rounds-preserved : goal.loop-rounds-preserved
loop-rounds-preserved c = rounding_more _ _ _ _ c.loop-rounds.invariant c.loop-rounds-test.true _ c.round-best.ensures c.if-best.true

pub returns-else-best : goal.returns-else-best
returns-else-best c = rounding_ends _ _ _ _ c.loop-rounds.invariant c.loop-rounds-test.true _ c.round-best.ensures c.if-best.false

pub returns : goal.returns
returns c = rounding_over _ _ _ _ c.loop-rounds.invariant c.loop-rounds-test.false
