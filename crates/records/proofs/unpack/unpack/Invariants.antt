-- `unpack` meets its contract. The loop's invariant: storing what is left gives the unpacked words, and no length changes. Assumes nothing.
use Prim.Native.Nat.{◌-◌}
use mathlib.Core.Path.{◌≡◌}
use lib.ListN.{length}
use lib.Seq.{sets}
use Rattle.sheet.specs.Decode.{table}
use Rattle.records.specs.RecordForm.{word_at, unpacked}
use Rattle.records.proofs.unpack.unpack.Given as goal

abbrev pub invariant-loop-i : goal.invariant-loop-i
invariant-loop-i l = (sets l.words l.i (table (word_at l.bytes) l.i (length l.initial.words - l.i)) ≡ unpacked l.bytes (length l.initial.words)) × (length l.words ≡ length l.initial.words)
