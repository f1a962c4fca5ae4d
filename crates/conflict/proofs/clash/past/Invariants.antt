-- `past` meets its contract. The loop's invariant: behind what is left stands what stands behind all, and `ahead` has as many left. Assumes nothing.
use mathlib.Core.Path.{◌≡◌}
use lib.ListN.{length}
use Rattle.sheet.specs.Between.Effects.{effects_left}
use Rattle.conflict.specs.Between.Clash.{beyond}
use Rattle.conflict.proofs.clash.past.Given as goal

abbrev pub invariant-loop-effect : goal.invariant-loop-effect
invariant-loop-effect l = (effects_left l.rest ≡ effects_left l.ahead) × (beyond l.fact (effects_left l.ahead) ≡ beyond l.fact (effects_left l.initial.ahead))

abbrev pub decreases-loop-effect : goal.decreases-loop-effect
decreases-loop-effect l = length (effects_left l.ahead)
