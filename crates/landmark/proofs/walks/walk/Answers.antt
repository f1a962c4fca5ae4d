-- `walk` meets its contract: one step more, or the walk is over. Assumes nothing.
use Rattle.landmark.proofs.WalkLaws.{walking_start, walking_more, walking_end}
use Rattle.std.proofs.Common.{rules}
use Rattle.landmark.proofs.walks.walk.Goals as goal

pub loop-i-init : goal.loop-i-init
loop-i-init c = walking_start _ _ _ _ _ _ c.requires

pub loop-i-preserved : goal.loop-i-preserved
loop-i-preserved c =
    walking_more _ _ _ _ _ _ _ _ _ _ c.loop-i.invariant c.loop-i-test.true _ _ _ _ _ c.facts_of-facts.ensures.0 c.facts_of-facts.ensures.1
    (rw (← c.facts.ensures) c.note.ensures) c.get_or-marked.ensures c.write_effects.ensures (search rules) (search rules) (search rules)

pub returns : goal.returns
returns c = walking_end _ _ _ _ _ _ _ _ _ _ c.loop-i.invariant c.loop-i-test.false
