-- `read_axiom` meets its contract: its lines are read in turn, and the first that is not what it must be is passed on. Assumes nothing.
use Rattle.std.proofs.Common.{rules}
use Rattle.form.proofs.ReadsLaws.{line_stopped, line_then, passed_on}
use Rattle.text_sections.proofs.CountLaws.{counted_conditions}
use Rattle.text_sections.proofs.sections.read_axiom.Goals as goal

pub returns-in_err-keyword : goal.returns-in_err-keyword
returns-in_err-keyword c =
    passed_on c.from_residual.ensures.1 (
    line_stopped c.in_err-keyword.ensures
    )

pub returns-in_err-read_counted : goal.returns-in_err-read_counted
returns-in_err-read_counted c =
    passed_on c.from_residual-in_err-read_counted.ensures.1 (
    line_then c.in_ok-keyword.ensures (
    line_stopped (c.in_err-read_counted.ensures _ _ counted_conditions (record { each = λ r result s met. search rules }))
    )
    )

pub returns-in_err-read_head : goal.returns-in_err-read_head
returns-in_err-read_head c =
    passed_on c.from_residual-in_err-read_head.ensures.1 (
    line_then c.in_ok-keyword.ensures (
    line_then (c.in_ok-read_counted.ensures _ _ counted_conditions (record { each = λ r result s met. search rules })) (
    line_stopped c.in_err-read_head.ensures
    )
    )
    )

pub returns : goal.returns
returns c =
    line_then c.in_ok-keyword.ensures (
    line_then (c.in_ok-read_counted.ensures _ _ counted_conditions (record { each = λ r result s met. search rules })) (
    line_then c.in_ok-read_head.ensures (
    c.keyword-2.ensures
    )
    )
    )
