-- `read_variable` meets its contract: its lines are read in turn, and the first that is not what it must be is passed on. Assumes nothing.
use Rattle.std.proofs.Common.{rules}
use Rattle.form.proofs.ReadsLaws.{line_stopped, line_then, passed_on}
use Rattle.text_sections.proofs.CountLaws.{counted_values}
use Rattle.text_sections.proofs.sections.read_variable.Goals as goal

pub returns-in_err-keyword : goal.returns-in_err-keyword
returns-in_err-keyword c =
    passed_on c.from_residual.ensures.1 (
    line_stopped c.in_err-keyword.ensures
    )

pub returns-in_err-name : goal.returns-in_err-name
returns-in_err-name c =
    passed_on c.from_residual-in_err-name.ensures.1 (
    line_then c.in_ok-keyword.ensures (
    line_stopped c.in_err-name.ensures
    )
    )

pub returns-in_err-read_layer : goal.returns-in_err-read_layer
returns-in_err-read_layer c =
    passed_on c.from_residual-in_err-read_layer.ensures.1 (
    line_then c.in_ok-keyword.ensures (
    line_then c.in_ok-name.ensures (
    line_stopped c.in_err-read_layer.ensures
    )
    )
    )

pub returns-in_err-read_counted : goal.returns-in_err-read_counted
returns-in_err-read_counted c =
    passed_on c.from_residual-in_err-read_counted.ensures.1 (
    line_then c.in_ok-keyword.ensures (
    line_then c.in_ok-name.ensures (
    line_then c.in_ok-read_layer.ensures (
    line_stopped (c.in_err-read_counted.ensures _ _ counted_values (record { each = λ r result s met. search rules }))
    )
    )
    )
    )

pub returns : goal.returns
returns c =
    line_then c.in_ok-keyword.ensures (
    line_then c.in_ok-name.ensures (
    line_then c.in_ok-read_layer.ensures (
    line_then (c.in_ok-read_counted.ensures _ _ counted_values (record { each = λ r result s met. search rules })) (
    c.keyword-2.ensures
    )
    )
    )
    )
