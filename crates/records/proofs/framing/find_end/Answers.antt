-- `find_end` meets its contract: each way to a return is a case of where the record ends. Assumes nothing.
use mathlib.Core.Path.{sym, ◌∙◌}
use Rattle.records.proofs.FormLaws.{ending_header, ending_outside, ending_cut, ending_long, ending_found}
use Rattle.records.proofs.framing.find_end.Goals as goal

pub returns-then-bytes-header : goal.returns-then-bytes-header
returns-then-bytes-header c = sym (ending_header _ _ c.if-bytes-header.true)

pub returns-then-outside : goal.returns-then-outside
returns-then-outside c = sym (ending_outside _ _ c.if-bytes-header.false _ c.task_length-task.ensures.0 (sym c.outside.ensures ∙ c.if-outside.true))

pub returns-then-bytes-start : goal.returns-then-bytes-start
returns-then-bytes-start c =
    let framed = c in
    sym (ending_cut _ _ (c.if-bytes-header.false) _ (c.task_length-task.ensures.0) (sym c.outside.ensures ∙ c.if-outside.false) c.if-bytes-start.true)

pub returns-then-plan-gt-STEPS : goal.returns-then-plan-gt-STEPS
returns-then-plan-gt-STEPS c =
    let framed = c in
    sym (ending_long _ _ (c.if-bytes-header.false) _ (c.task_length-task.ensures.0) (sym c.outside.ensures ∙ c.if-outside.false) c.if-bytes-start.false _ c.word_at-plan.ensures.0 c.if-plan-gt-STEPS.true)

pub returns : goal.returns
returns c =
    let framed = c in
    sym (ending_found _ _ (c.if-bytes-header.false) _ (c.task_length-task.ensures.0) (sym c.outside.ensures ∙ c.if-outside.false) c.if-bytes-start.false _ c.word_at-plan.ensures.0 c.if-plan-gt-STEPS.false)
