-- `word_at` meets its contract: the four bytes that are read are those of the word. Assumes nothing.
use Prim.Native.Nat.{◌*◌}
use native.Mathlib.Omega.{arith}
use mathlib.Core.Path.{refl}
use Rattle.records.specs.RecordForm.{word_bytes}
use Rattle.records.proofs.InputWordLaws.{word_of_bytes}
use Rattle.records.proofs.word.word_at.Goals as goal

pub returns : goal.returns
returns c = let start = c.args in omega (arith, word_of_bytes start.bytes.now start.i (word_bytes * start.i) refl)
