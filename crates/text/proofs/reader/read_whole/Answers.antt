-- `read_whole` meets its contract: a text that is not too long is read from its beginning to its end. Assumes nothing.
use mathlib.Core.Path.{refl, ◌∙◌}
use Rattle.std.specs.Prelude.{Ok, Err}
use Rattle.std.proofs.result.Match.{err_is}
use Rattle.text.proofs.ReaderLaws.{reads_whole, found_long, found_whole}
use Rattle.text.proofs.reader.read_whole.Goals as goal

pub returns-then-text-gt-TEXT : goal.returns-then-text-gt-TEXT
returns-then-text-gt-TEXT c = found_long _ _ c.if-text-gt-TEXT.true

pub returns-in_err-feed_all : goal.returns-in_err-feed_all
returns-in_err-feed_all c =
    rw (err_is _ _ c.from_residual.ensures.1)
    (reads_whole _ (Err _) _ _ _ _ c.start.ensures c.in_err-feed_all.ensures refl ∙ found_whole _ _ c.if-text-gt-TEXT.false)

pub returns : goal.returns
returns c = reads_whole _ (Ok _) _ _ _ _ c.start.ensures c.in_ok-feed_all.ensures c.finish.ensures ∙ found_whole _ _ c.if-text-gt-TEXT.false
