-- `read_state` meets its contract: its lines are read in turn, and the first that is not what it must be is passed on. Assumes nothing.
use Rattle.std.proofs.Common.{rules}
use Rattle.form.proofs.ReadsLaws.{line_stopped, line_then, passed_on, reads_stopped, reads_then}
use Rattle.text_sections.proofs.sections.read_state.Goals as goal

pub returns-in_err-keyword : goal.returns-in_err-keyword
returns-in_err-keyword c =
    passed_on c.from_residual.ensures.1 (
    line_stopped c.in_err-keyword.ensures
    )

pub returns-in_err-repeat : goal.returns-in_err-repeat
returns-in_err-repeat c =
    passed_on c.from_residual-in_err-repeat.ensures.1 (
    line_then c.in_ok-keyword.ensures (
    reads_stopped _ (c.in_err-repeat.ensures.reads _ (record { each = λ r result s met. search rules }))
    )
    )

pub returns : goal.returns
returns c =
    line_then c.in_ok-keyword.ensures (
    reads_then (c.in_ok-repeat.ensures.reads _ (record { each = λ r result s met. search rules })) (
    c.keyword-2.ensures
    )
    )
