-- `unpack` meets its contract: each turn stores the word at its index. Assumes nothing.
use native.Mathlib.Omega.{arith}
use native.Mathlib.Nat.{sub-zero}
use mathlib.Core.Path.{refl}
use lib.ListN.{length}
use Rattle.sheet.proofs.TableLaws.{stores_over, stores_next, stores_whole}
use Rattle.records.specs.RecordForm.{word_at}
use Rattle.std.proofs.Common.{rules}
use Rattle.records.proofs.unpack.unpack.Goals as goal

pub loop-i-init : goal.loop-i-init
loop-i-init c = (rw sub-zero (stores_whole _ c.args.words.now _ refl), refl)

pub loop-i-preserved : goal.loop-i-preserved
loop-i-preserved c = (cc (stores_next (word_at c.args.bytes.now) c.loop-i.words c.loop-i.i (length c.args.words.now) c.loop-i-test.true), search rules)

pub returns : goal.returns
returns c = cc (stores_over (word_at c.args.bytes.now) c.loop-i.words c.loop-i.i (length c.args.words.now) (omega arith))
