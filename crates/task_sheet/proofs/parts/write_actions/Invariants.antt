-- `write_actions` meets its contract. The loop's invariant: the parts of the operators that are left, laid over the sheet as it is now, make what all of them
-- make; and no index is far. Assumes nothing.
use Prim.Native.Nat.{◌+◌, ◌*◌, ◌^◌, ◌≤◌}
use Rattle.meaning.specs.Between.Sections.{number_at, operators_at}
use Rattle.sheet_writer.specs.Between.Laid.{first_word, part_most}
use Rattle.task_sheet.proofs.PartsLaws.{LayingActions}
use Rattle.task_sheet.proofs.parts.write_actions.Given as goal

abbrev pub invariant-loop-a : goal.invariant-loop-a
invariant-loop-a l =
    let n = number_at l.x (operators_at l.x) in
    record {
      laying : LayingActions l.x (operators_at l.x + 1) n l.initial.sheet l.at l.sheet l.i l.to l.a;
      behind : first_word n ≤ l.to;
      near : l.to ≤ l.at + part_most * l.a;
      index : l.i ≤ 2 ^ 36 * (l.a + 1);
    }
