-- `find_failing` meets its contract: a fact that is taken fails or holds, and none is left where none comes. Assumes nothing.
use mathlib.Core.Path.{refl, sym, ◌∙◌}
use Rattle.step.proofs.FailingLaws.{failing_over, failing_here, failing_more, tests}
use Rattle.step.proofs.facts.find_failing.Goals as goal

pub loop-fact-init : goal.loop-fact-init
loop-fact-init c = refl

pub returns-then-not-holds : goal.returns-then-not-holds
returns-then-not-holds c =
    tests _ _ _ (sym (failing_here _ _ _ _ c.in-Some.ensures.steps (sym c.holds.ensures ∙ c.if-not-holds.true)) ∙ c.loop-fact.invariant)

pub loop-fact-preserved : goal.loop-fact-preserved
loop-fact-preserved c = sym (failing_more _ _ _ _ c.in-Some.ensures.steps (sym c.holds.ensures ∙ c.if-not-holds.false)) ∙ c.loop-fact.invariant

pub returns : goal.returns
returns c = tests _ _ _ (sym (failing_over _ _ c.in_default.ensures.steps.0) ∙ c.loop-fact.invariant)
