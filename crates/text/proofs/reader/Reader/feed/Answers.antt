-- `feed` meets its contract: each mode of the reader is a case. Assumes nothing.
use mathlib.Core.Path.{sym, ◌∙◌}
use Rattle.std.proofs.result.Match.{err_is}
use Rattle.text.proofs.ReaderLaws.{reads_in_mode, stores_then_stops, stores_then_skips}
use Rattle.text.proofs.reader.Reader.feed.Goals as goal

pub returns-in-Blank : goal.returns-in-Blank
returns-in-Blank c = reads_in_mode _ _ c.in-Blank.is (c.skip.ensures _)

pub returns-in-Comment : goal.returns-in-Comment
returns-in-Comment c = reads_in_mode _ _ c.in-Comment.is (c.pass.ensures _)

pub returns-in-Word-2 : goal.returns-in-Word-2
returns-in-Word-2 c = reads_in_mode _ _ c.in-Word-2.is (c.grow.ensures _)

pub returns-in_err-store-in-Word : goal.returns-in_err-store-in-Word
returns-in_err-store-in-Word c =
    let stops = reads_in_mode _ _ c.in-Word.is (stores_then_stops _ _ _ _ _ _ _ c.in_err-store-in-Word.ensures (sym c.ends_field.ensures ∙ c.if-ends_field.true)) in
    rw (err_is _ _ c.from_residual.ensures.1) stops

pub returns-in_ok-store-in-Word : goal.returns-in_ok-store-in-Word
returns-in_ok-store-in-Word c =
    reads_in_mode _ _ c.in-Word.is
    (stores_then_skips _ _ _ _ _ _ _ c.in_ok-store-in-Word.ensures (sym c.ends_field.ensures ∙ c.if-ends_field.true) _ (c.skip-in-Word.ensures _))
