-- `initial` meets its contract. The loop's invariant: storing the values from v on makes what storing all makes. Assumes nothing.
use lib.ListN.{length, replicate}
use Rattle.step.proofs.StateLaws.{started}
use mathlib.Core.Path.{◌≡◌}
use Prim.Native.Nat.{◌-◌}
use Rattle.step.proofs.state.initial.Given as goal

abbrev pub invariant-loop-v : goal.invariant-loop-v
invariant-loop-v l = (length l.values ≡ 64) × (started l.words l.values l.v l.v-end ≡ started l.words (replicate 64 0) 0 l.v-end)
