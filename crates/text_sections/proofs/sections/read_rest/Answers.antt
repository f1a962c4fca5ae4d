-- `read_rest` meets its contract: the sections are read in turn, and the first line that is not what it must be is passed on. Assumes nothing.
use Rattle.std.proofs.Common.{rules}
use Rattle.form.proofs.ReadsLaws.{line_stopped, line_then, passed_on, reads_stopped, reads_then}
use Rattle.text_sections.proofs.CountLaws.{counted_groups, counted_operators}
use Rattle.text_sections.proofs.sections.read_rest.Goals as goal

pub returns-in_err-repeat : goal.returns-in_err-repeat
returns-in_err-repeat c =
    passed_on c.from_residual.ensures.1 (
    reads_stopped _ (c.in_err-repeat.ensures.reads _ (record { each = λ r result s met. search rules }))
    )

pub returns-in_err-read_counted : goal.returns-in_err-read_counted
returns-in_err-read_counted c =
    passed_on c.from_residual-in_err-read_counted.ensures.1 (
    reads_then (c.in_ok-repeat.ensures.reads _ (record { each = λ r result s met. search rules })) (
    line_stopped (c.in_err-read_counted.ensures _ _ counted_groups (record { each = λ r result s met. search rules }))
    )
    )

pub returns-in_err-read_state : goal.returns-in_err-read_state
returns-in_err-read_state c =
    passed_on c.from_residual-in_err-read_state.ensures.1 (
    reads_then (c.in_ok-repeat.ensures.reads _ (record { each = λ r result s met. search rules })) (
    line_then (c.in_ok-read_counted.ensures _ _ counted_groups (record { each = λ r result s met. search rules })) (
    reads_stopped _ c.in_err-read_state.ensures
    )
    )
    )

pub returns-in_err-read_goal : goal.returns-in_err-read_goal
returns-in_err-read_goal c =
    passed_on c.from_residual-in_err-read_goal.ensures.1 (
    reads_then (c.in_ok-repeat.ensures.reads _ (record { each = λ r result s met. search rules })) (
    line_then (c.in_ok-read_counted.ensures _ _ counted_groups (record { each = λ r result s met. search rules })) (
    reads_then c.in_ok-read_state.ensures (
    reads_stopped _ c.in_err-read_goal.ensures
    )
    )
    )
    )

pub returns-in_err-read_counted-2 : goal.returns-in_err-read_counted-2
returns-in_err-read_counted-2 c =
    passed_on c.from_residual-in_err-read_counted-2.ensures.1 (
    reads_then (c.in_ok-repeat.ensures.reads _ (record { each = λ r result s met. search rules })) (
    line_then (c.in_ok-read_counted.ensures _ _ counted_groups (record { each = λ r result s met. search rules })) (
    reads_then c.in_ok-read_state.ensures (
    reads_then c.in_ok-read_goal.ensures (
    line_stopped (c.in_err-read_counted-2.ensures _ _ counted_operators (record { each = λ r result s met. search rules }))
    )
    )
    )
    )
    )

pub returns : goal.returns
returns c =
    reads_then (c.in_ok-repeat.ensures.reads _ (record { each = λ r result s met. search rules })) (
    line_then (c.in_ok-read_counted.ensures _ _ counted_groups (record { each = λ r result s met. search rules })) (
    reads_then c.in_ok-read_state.ensures (
    reads_then c.in_ok-read_goal.ensures (
    line_then (c.in_ok-read_counted-2.ensures _ _ counted_operators (record { each = λ r result s met. search rules })) (
    c.read_axioms.ensures
    )
    )
    )
    )
    )
