-- `write_words` meets its contract. The loop's invariant: with the words that are left still to be copied, the words are those of all. Assumes nothing.
use Prim.Native.Nat.{◌+◌}
use native.Mathlib.Nat.{add-zero, sub-zero}
use mathlib.Core.Path.{sym, ◌∙◌}
use Rattle.sheet.specs.Layout.{word}
use Rattle.sheet_writer.proofs.CopyLaws.{copied_all, copied_next}
use Rattle.sheet_writer.proofs.words.write_words.Goals as goal

pub loop-k-init : goal.loop-k-init
loop-k-init c = rw (add-zero, sub-zero)

pub loop-k-preserved : goal.loop-k-preserved
loop-k-preserved c =
    cc (
      copied_next (λ j. word c.args.words.now (c.args.from + j)) c.loop-k.sheet c.args.at c.loop-k.k c.args.n c.loop-k-test.true,
      c.put.ensures,
      c.get_or.ensures,
      c.loop-k.invariant,
    )

pub returns : goal.returns
returns c = sym (copied_all _ _ _ _ _ c.loop-k-test.false) ∙ c.loop-k.invariant
