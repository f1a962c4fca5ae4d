-- `word_of` meets its contract. The loop's invariant: the word so far is that of the flags from i on; each turn puts one flag below them. Assumes nothing.
use Prim.Native.Nat.{◌≤◌}
use mathlib.Core.Path.{◌≡◌}
use Rattle.mask.specs.Mask.{word_bits}
use Rattle.mask.proofs.MaskLaws.{upper_part}
use Rattle.mask.proofs.word_of.Given as goal

abbrev pub invariant-loop-i : goal.invariant-loop-i
invariant-loop-i l = (l.i ≤ word_bits) × (l.word ≡ upper_part l.flags l.from l.i)
