-- `write_rows` meets its contract. The loop's invariant: from the next step on the walk writes what the whole walk writes. Assumes nothing.
use Prim.Native.Nat.{◌-◌}
use lib.ListN.{length}
use Rattle.moves.proofs.RowLaws.{Walking}
use Rattle.moves.proofs.rows.write_rows.Given as goal

abbrev pub invariant-loop-i : goal.invariant-loop-i
invariant-loop-i l = Walking l.words l.plan l.kept l.marked l.initial.rows l.rows l.so_far l.i
