-- `unknown_action` meets its contract. The loop's invariant: the search from i on finds what the whole search finds. Assumes nothing.
use borrow.Author.Tests.{le-leb, lt-leb}
use native.Mathlib.Omega.{arith}
use mathlib.Core.Path.{refl, sym, ◌∙◌}
use Rattle.refusal.proofs.PlaceLaws.{first_of_over, first_of_here, first_of_more}
use Rattle.plan.specs.Checked.{unknown_place}
use Rattle.plan.proofs.list.unknown_action.Goals as goal

pub loop-i-init : goal.loop-i-init
unfolding unknown_place
loop-i-init c = refl

pub returns-then-known-a : goal.returns-then-known-a
returns-then-known-a c = sym (first_of_here _ _ _ _ c.loop-i-test.true (rw (← c.actions-known.ensures.0, le-leb _ _ c.if-known-a.true))) ∙ c.loop-i.invariant

pub loop-i-preserved : goal.loop-i-preserved
loop-i-preserved c = sym (first_of_more _ _ _ c.loop-i-test.true (rw (← c.actions-known.ensures.0, lt-leb _ _ c.if-known-a.false))) ∙ c.loop-i.invariant

pub returns : goal.returns
returns c = sym (first_of_over _ _ _ c.loop-i-test.false) ∙ c.loop-i.invariant
