-- `plan_moves` meets its contract: what is read is refused, or its rows are written. Assumes nothing.
use Rattle.refusal.proofs.PassedOnLaws.{passed_on}
use mathlib.Core.List.{[]}
use Rattle.moves.proofs.RowLaws.{moves_refused, moves_readable, moves_written}
use Rattle.moves.proofs.rows.plan_moves.Goals as goal

pub returns-in_err-check_read : goal.returns-in_err-check_read
returns-in_err-check_read c = rw (passed_on _ _ c.from_residual.ensures.1) (moves_refused _ _ _ _ _ c.check_read.ensures _ _ c.in_err-check_read.was)

pub write_rows-requires : goal.write_rows-requires
write_rows-requires c = moves_readable _ _ [] [] _ c.check_read.ensures [] c.in_ok-check_read.was

pub returns : goal.returns
returns c = moves_written _ _ _ _ _ c.check_read.ensures _ c.in_ok-check_read.was _ _ c.write_rows.ensures
