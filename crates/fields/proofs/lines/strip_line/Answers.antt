-- `strip_line` meets its contract: the bytes begin with the line, and those behind it with a line end. Assumes nothing.
use Rattle.std.specs.Prelude.{Some}
use Rattle.fields.proofs.LineLaws.{begins_same, strips_no_line, strips_line}
use Rattle.fields.proofs.lines.strip_line.Goals as goal

pub returns-in_err-strip_prefix : goal.returns-in_err-strip_prefix
returns-in_err-strip_prefix c = rw c.from_residual.ensures (strips_no_line _ _ c.in_err-strip_prefix.ensures.cases)

pub returns-in-Some : goal.returns-in-Some
returns-in-Some c =
    strips_line _ _ _ c.in_ok-strip_prefix.ensures.cases.0 c.in_ok-strip_prefix.ensures.cases.1 (Some c.in-Some.rest) (
    begins_same _ _ c.in-Some.ensures.cases.0 c.if-ends_line.ensures)
