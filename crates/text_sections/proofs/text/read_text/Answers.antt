-- `read_text` meets its contract: a law for each way to a return, by the length of the text and where its reading ends. Assumes nothing.
use mathlib.Core.Path.{sym}
use Rattle.form.proofs.ReadsLaws.{finds_by}
use Rattle.text_sections.proofs.FormLaws.{found_long, found_broken, found_over, found_there, found_whole}
use Rattle.text_sections.proofs.text.read_text.Goals as goal

pub returns-then-tape-text-clause-outcome : goal.returns-then-tape-text-clause-outcome
returns-then-tape-text-clause-outcome c = found_long _ _ c.if-tape-text.true

pub returns-in_err-read_all-clause-outcome : goal.returns-in_err-read_all-clause-outcome
returns-in_err-read_all-clause-outcome c = found_broken _ c.if-tape-text.false c.start-reader.ensures _ c.from_residual.ensures.1 (finds_by c.in_err-read_all.ensures)

pub returns-then-not-is_empty-clause-outcome : goal.returns-then-not-is_empty-clause-outcome
returns-then-not-is_empty-clause-outcome c =
    found_over _ c.if-tape-text.false c.start-reader.ensures (finds_by c.in_ok-read_all.ensures) (sym c.if-not-is_empty.ensures) c.next_line.ensures

pub returns-clause-outcome : goal.returns-clause-outcome
returns-clause-outcome c = found_whole _ c.if-tape-text.false c.start-reader.ensures (finds_by c.in_ok-read_all.ensures) (sym c.if-not-is_empty.ensures)

pub returns-clause-at_front : goal.returns-clause-at_front
returns-clause-at_front c = found_there _ c.if-tape-text.false c.start-reader.ensures c.in_ok-read_all.ensures
