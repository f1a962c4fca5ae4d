-- `read_front` meets its contract: its lines are read in turn, and the first that is not what it must be is passed on. Assumes nothing.
use Rattle.form.proofs.ReadsLaws.{line_stopped, line_then, passed_on}
use Rattle.text_sections.proofs.sections.read_front.Goals as goal

pub returns-in_err-keyword : goal.returns-in_err-keyword
returns-in_err-keyword c =
    passed_on c.from_residual.ensures.1 (
    line_stopped c.in_err-keyword.ensures
    )

pub returns-in_err-keyword-2 : goal.returns-in_err-keyword-2
returns-in_err-keyword-2 c =
    passed_on c.from_residual-in_err-keyword-2.ensures.1 (
    line_then c.in_ok-keyword.ensures (
    line_stopped c.in_err-keyword-2.ensures
    )
    )

pub returns-in_err-keyword-3 : goal.returns-in_err-keyword-3
returns-in_err-keyword-3 c =
    passed_on c.from_residual-in_err-keyword-3.ensures.1 (
    line_then c.in_ok-keyword.ensures (
    line_then c.in_ok-keyword-2.ensures (
    line_stopped c.in_err-keyword-3.ensures
    )
    )
    )

pub returns-in_err-keyword-4 : goal.returns-in_err-keyword-4
returns-in_err-keyword-4 c =
    passed_on c.from_residual-in_err-keyword-4.ensures.1 (
    line_then c.in_ok-keyword.ensures (
    line_then c.in_ok-keyword-2.ensures (
    line_then c.in_ok-keyword-3.ensures (
    line_stopped c.in_err-keyword-4.ensures
    )
    )
    )
    )

pub returns-in_err-read_metric : goal.returns-in_err-read_metric
returns-in_err-read_metric c =
    passed_on c.from_residual-in_err-read_metric.ensures.1 (
    line_then c.in_ok-keyword.ensures (
    line_then c.in_ok-keyword-2.ensures (
    line_then c.in_ok-keyword-3.ensures (
    line_then c.in_ok-keyword-4.ensures (
    line_stopped c.in_err-read_metric.ensures
    )
    )
    )
    )
    )

pub returns : goal.returns
returns c =
    line_then c.in_ok-keyword.ensures (
    line_then c.in_ok-keyword-2.ensures (
    line_then c.in_ok-keyword-3.ensures (
    line_then c.in_ok-keyword-4.ensures (
    line_then c.in_ok-read_metric.ensures (
    c.keyword-5.ensures
    )
    )
    )
    )
    )
