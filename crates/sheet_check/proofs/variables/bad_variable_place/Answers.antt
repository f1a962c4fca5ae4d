-- `bad_variable_place` meets its contract. The loop's invariant: the search from v on finds what the whole search finds. Assumes nothing.
use mathlib.Core.Path.{sym, ◌∙◌}
use Rattle.refusal.proofs.PlaceLaws.{first_over, first_here, first_more}
use Rattle.sheet.specs.Causes.{variable_place}
use Rattle.sheet_check.proofs.variables.bad_variable_place.Goals as goal

pub loop-v-init : goal.loop-v-init
unfolding variable_place
loop-v-init c = rw c.variables-v-end.ensures.0

pub returns-then-bad_variable : goal.returns-then-bad_variable
returns-then-bad_variable c = sym (first_here _ _ _ c.loop-v-test.true (sym c.bad_variable.ensures ∙ c.if-bad_variable.true)) ∙ c.loop-v.invariant

pub loop-v-preserved : goal.loop-v-preserved
loop-v-preserved c = sym (first_more _ _ _ c.loop-v-test.true (sym c.bad_variable.ensures ∙ c.if-bad_variable.false)) ∙ c.loop-v.invariant

pub returns : goal.returns
returns c = sym (first_over _ _ _ c.loop-v-test.false) ∙ c.loop-v.invariant
