-- `put_row` meets its contract: a row, and how long it is at most. Assumes nothing.
use Rattle.lines.specs.Lines.{numeral}
use Rattle.program.proofs.RoomLaws.{numeral_fits, line_fits}
use Rattle.program.proofs.output.put_row.Goals as goal

pub returns-clause-short_line : goal.returns-clause-short_line
returns-clause-short_line c = line_fits (numeral c.args.first) c.args.others.now (λ i. (c.type_inv.others i).fits)

pub returns-clause-first_len_bound : goal.returns-clause-first_len_bound
returns-clause-first_len_bound c = numeral_fits c.args.first c.ranges.first.fits
