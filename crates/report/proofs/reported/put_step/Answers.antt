-- `put_step` meets its contract: a row of three numbers. Assumes nothing.
use mathlib.Core.Path.{◌∙◌}
use lib.Dec.{lit≤}
use Rattle.report.proofs.ReportLaws.{step_printed}
use Rattle.report.proofs.reported.put_step.Goals as goal

pub returns : goal.returns
returns c =
    let put = c.put_row.ensures in
    step_printed c.args.words.now c.args.position c.args.action c.from.ensures (c.from-2.ensures ∙ c.cost.ensures.0) put.puts (put.short_line (lit≤ tt)) put.first_len_bound
