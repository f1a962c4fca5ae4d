-- `skip_line` meets its contract: the first line end ends the first line. Assumes nothing.
use mathlib.Core.Path.{refl, sym, ◌∙◌}
use Rattle.fields.proofs.LineLaws.{skips_line, line_unended}
use Rattle.fields.proofs.lines.skip_line.Goals as goal

pub returns-in_err-end : goal.returns-in_err-end
returns-in_err-end c = rw c.from_residual.ensures (sym c.skip_blocks-rest.ensures.0 ∙ line_unended _ (sym c.in_err-end.ensures))

pub returns : goal.returns
returns c = skips_line _ _ c.skip_blocks-rest.ensures.0 c.skip_blocks-rest.ensures.1 _ c.in_ok-end.ensures _ refl
