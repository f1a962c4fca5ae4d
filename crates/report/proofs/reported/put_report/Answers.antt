-- `put_report` meets its contract: the lines, one behind the other. Assumes nothing.
use lib.Dec.{lit≤}
use Rattle.report.proofs.ReportLaws.{reports}
use Rattle.report.proofs.reported.put_report.Goals as goal

pub returns : goal.returns
returns c =
    let lodged = c.put_tally.ensures in
    let marks = c.put_line.ensures in
    let left = c.put_tally-2.ensures in
    reports _ _ _ _ lodged.puts (lodged.short_line (lit≤ tt)) c.from.ensures marks.puts (marks.short_line (lit≤ tt) (lit≤ tt)) left.puts (left.short_line (lit≤ tt)) c.put_steps.ensures
