-- `initial` meets its contract. The loop's invariant: storing the values from v on makes what storing all makes. Assumes nothing.
use lib.ListN.{length-set}
use Rattle.step.proofs.StateLaws.{started_whole, started_over, started_more}
use Rattle.step.specs.State.{in_array}
use mathlib.Core.Path.{refl, sym, ◌∙◌}
use Rattle.step.proofs.state.initial.Goals as goal

pub loop-v-init : goal.loop-v-init
loop-v-init c = (refl, refl)

pub loop-v-preserved : goal.loop-v-preserved
loop-v-preserved c = (rw (c.put.ensures, length-set) c.loop-v.invariant.0, rw (c.put.ensures, c.get_or.ensures, c.start_at-from.ensures.0) (sym (started_more _ _ _ _ c.loop-v-test.true) ∙ c.loop-v.invariant.1))

pub returns : goal.returns
unfolding in_array
returns c = sym (started_over _ _ _ _ c.loop-v-test.false) ∙ c.loop-v.invariant.1 ∙ started_whole _ _ _ c.variables-v-end.ensures.0
