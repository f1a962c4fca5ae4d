-- `finish` meets its contract: each mode of the reader is a case. Assumes nothing.
use mathlib.Core.Path.{◌∙◌}
use Rattle.std.proofs.result.Match.{err_is}
use Rattle.text.proofs.ReaderLaws.{still_in_mode, ends_blank, ends_comment, ends_word, ends_full}
use Rattle.text.proofs.reader.Reader.finish.Goals as goal

pub returns-in-Blank : goal.returns-in-Blank
returns-in-Blank c = ends_blank _ _ _ ∙ still_in_mode _ _ c.in-Blank.is _ _

pub returns-in-Comment : goal.returns-in-Comment
returns-in-Comment c = ends_comment _ _ _ ∙ still_in_mode _ _ c.in-Comment.is _ _

pub returns-in_ok-store-in-Word : goal.returns-in_ok-store-in-Word
returns-in_ok-store-in-Word c = ends_word _ _ _ 0 _ _ _ c.in_ok-store-in-Word.ensures ∙ still_in_mode _ _ c.in-Word.is _ _

pub returns-in_err-store-in-Word : goal.returns-in_err-store-in-Word
returns-in_err-store-in-Word c = rw (err_is _ _ c.from_residual.ensures.1) (ends_full _ _ _ 0 _ _ _ c.in_err-store-in-Word.ensures ∙ still_in_mode _ _ c.in-Word.is _ _)
