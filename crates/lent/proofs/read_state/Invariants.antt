-- `read_state` meets its contract. The loop's invariant: storing what is left gives the state that the words are.
-- The measure is the number of values left. Assumes nothing.
use Prim.Native.Nat.{◌-◌}
use mathlib.Core.Path.{◌≡◌}
use lib.Seq.{sets}
use Rattle.sheet.specs.Limits.{limits}
use Rattle.sheet.specs.Layout.{word}
use Rattle.sheet.specs.Decode.{table}
use Rattle.lent.specs.Words.{lent_state}
use Rattle.lent.proofs.read_state.Given as goal

abbrev pub invariant-loop-v : goal.invariant-loop-v
invariant-loop-v l = sets l.values l.v (table (word l.words) l.v (limits.variables - l.v)) ≡ lent_state l.words
