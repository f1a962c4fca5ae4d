-- `frame_input` meets its contract: a record that can't be read is no input, and one that is whole runs on or ends. Assumes nothing.
use mathlib.Core.Path.{sym, ◌∙◌}
use Rattle.std.proofs.result.Match.{err_is}
use Rattle.records.proofs.FormLaws.{input_from, input_runs_on, input_ends}
use Rattle.records.proofs.framing.frame_input.Goals as goal

pub returns-in_err-extent : goal.returns-in_err-extent
returns-in_err-extent c = err_is _ _ c.from_residual.ensures.1 ∙ sym (input_from _ _ _ c.in_err-extent.ensures)

pub returns-then-extent-bytes : goal.returns-then-extent-bytes
returns-then-extent-bytes c = sym (input_runs_on _ _ _ c.in_ok-extent.ensures c.if-extent-bytes.true)

pub returns : goal.returns
returns c = sym (input_ends _ _ _ c.in_ok-extent.ensures c.if-extent-bytes.false)
