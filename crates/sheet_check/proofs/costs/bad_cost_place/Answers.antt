-- `bad_cost_place` meets its contract. The loop's invariant: the search from a on finds what the whole search finds. Assumes nothing.
use mathlib.Core.Path.{sym, ◌∙◌}
use Rattle.refusal.proofs.PlaceLaws.{first_over, first_here, first_more}
use borrow.Author.Tests.{lt-ltb, le-ltb}
use Rattle.sheet.specs.Causes.{cost_place}
use Rattle.sheet_check.proofs.costs.bad_cost_place.Goals as goal

pub loop-a-init : goal.loop-a-init
unfolding cost_place
loop-a-init c = rw c.actions-a-end.ensures.0

pub returns-then-cost-gt-COST : goal.returns-then-cost-gt-COST
returns-then-cost-gt-COST c = sym (first_here _ _ _ c.loop-a-test.true (rw (← c.cost.ensures.0) (lt-ltb _ _ c.if-cost-gt-COST.true))) ∙ c.loop-a.invariant

pub loop-a-preserved : goal.loop-a-preserved
loop-a-preserved c = sym (first_more _ _ _ c.loop-a-test.true (rw (← c.cost.ensures.0) (le-ltb _ _ c.if-cost-gt-COST.false))) ∙ c.loop-a.invariant

pub returns : goal.returns
returns c = sym (first_over _ _ _ c.loop-a-test.false) ∙ c.loop-a.invariant
