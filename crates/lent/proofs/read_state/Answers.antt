-- `read_state` meets its contract. The loop's invariant: storing what is left gives the state that the words are.
-- The measure is the number of values left. Assumes nothing.
use mathlib.Core.Path.{refl, sym, ◌∙◌}
use lib.ListN.{replicate}
use Rattle.sheet.specs.Limits.{limits}
use Rattle.sheet.specs.Layout.{word}
use Rattle.lent.specs.Words.{lent_state}
use Rattle.sheet.proofs.TableLaws.{stores_over, stores_next, stores_whole}
use Rattle.lent.proofs.read_state.Goals as goal

pub loop-v-init : goal.loop-v-init
unfolding lent_state
loop-v-init c = stores_whole _ (replicate limits.variables 0) _ refl

pub loop-v-preserved : goal.loop-v-preserved
loop-v-preserved c =
    cc
    (stores_next (word c.args.words.now) c.loop-v.values c.loop-v.v limits.variables c.loop-v-test.true)

pub returns : goal.returns
returns c = sym (stores_over _ _ _ _ c.loop-v-test.false) ∙ c.loop-v.invariant
