-- `put_line` meets its contract: a line, and how long it is at most. Assumes nothing.
use Rattle.program.proofs.RoomLaws.{line_fits}
use Rattle.program.proofs.output.put_line.Goals as goal

pub returns-clause-short_line : goal.returns-clause-short_line
returns-clause-short_line c = line_fits c.args.word.now c.args.numbers.now (λ i. (c.type_inv.numbers i).fits)
