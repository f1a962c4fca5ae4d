-- `read_run` meets its contract. The loop's invariant: so many numbers are read, and what is behind them leads to what all leads to. Assumes nothing.
use mathlib.Core.Path.{refl, ◌∙◌}
use lib.ListN.{length-set}
use Rattle.text_effects.proofs.EffectLaws.{run_begins, run_more, run_missed}
use Rattle.text_effects.proofs.effects.read_run.Goals as goal

pub loop-k-init : goal.loop-k-init
loop-k-init c = (run_begins _ _ _, refl)

pub loop-k-preserved : goal.loop-k-preserved
loop-k-preserved c = (
  run_more c.loop-k.invariant.0 _ c.in-Some.ensures _ refl,
  length-set c.loop-k.tape _ _ ∙ c.loop-k.invariant.1,
)

pub returns-in_default : goal.returns-in_default
returns-in_default c = run_missed c.loop-k.invariant.0 _ c.loop-k-test.true c.in_default.ensures
