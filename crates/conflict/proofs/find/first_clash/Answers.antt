-- `first_clash` meets its contract. The loop's invariant: the search from a on finds what the whole search finds. Assumes nothing.
use mathlib.Core.Path.{sym, ◌∙◌}
use Rattle.refusal.proofs.PlaceLaws.{first_over, first_here, first_more}
use Rattle.conflict.specs.Between.Clash.{clash_place}
use Rattle.conflict.proofs.find.first_clash.Goals as goal

pub loop-a-init : goal.loop-a-init
unfolding clash_place
loop-a-init c = rw c.actions-a-end.ensures.0

pub returns-then-some_clash : goal.returns-then-some_clash
returns-then-some_clash c = sym (first_here _ _ _ c.loop-a-test.true (sym c.some_clash.ensures ∙ c.if-some_clash.true)) ∙ c.loop-a.invariant

pub loop-a-preserved : goal.loop-a-preserved
loop-a-preserved c = sym (first_more _ _ _ c.loop-a-test.true (sym c.some_clash.ensures ∙ c.if-some_clash.false)) ∙ c.loop-a.invariant

pub returns : goal.returns
returns c = sym (first_over _ _ _ c.loop-a-test.false) ∙ c.loop-a.invariant
