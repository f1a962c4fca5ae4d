-- `frame_record` meets its contract: a record with no end is one that can't be read, and an end that is found is reached or not. Assumes nothing.
use mathlib.Core.Path.{sym, ◌∙◌}
use Rattle.std.proofs.result.Match.{err_is}
use Rattle.records.proofs.FormLaws.{form_from, form_breaks_off, form_reaches}
use Rattle.records.proofs.framing.frame_record.Goals as goal

pub returns-in_err-extent : goal.returns-in_err-extent
returns-in_err-extent c = err_is _ _ c.from_residual.ensures.1 ∙ sym (form_from _ _ _ c.in_err-extent.ensures)

pub returns-then-bytes-extent : goal.returns-then-bytes-extent
returns-then-bytes-extent c = sym (form_breaks_off _ _ _ c.in_ok-extent.ensures c.if-bytes-extent.true)

pub returns : goal.returns
returns c = sym (form_reaches _ _ _ c.in_ok-extent.ensures c.if-bytes-extent.false)
