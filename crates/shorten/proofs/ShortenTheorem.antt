-- Demand 3 of what the program prints: the bytes of a sheet and its list are opened as those, so that what is printed for them is what is printed for the list; and
-- only the number of unmarked steps decides what that is. Assumes nothing.
use Prim.Native.Nat.{ℕ}
use mathlib.Core.Path.{◌≡◌}
use mathlib.Core.List.{List}
use lib.ListN.{take}
use Rattle.plan.specs.Limits.{most_steps}
use Rattle.minimal.specs.Minimised.{most_unmarked}
use Rattle.minimal.proofs.DemandThree.{demand_three_of}
use Rattle.records.specs.Bytes.{input_of}
use Rattle.program.specs.Printed.{refusal_line, HasRead, ReadFrom}
use Rattle.program.specs.declared.input.Input.{Input}
use Rattle.program.specs.Reply.{reply_further}
use Rattle.program.proofs.RecordTheorem.{record_opened}
use Rattle.program.proofs.ReplyTheorem.{reply_to_all}
use Rattle.report.specs.Report.{reported}
use Rattle.report.specs.Shortened.{shortened}
use Rattle.shorten.specs.Shorten.{printed}
use Rattle.shorten.specs.Statement.{DemandThreePrinted}

pub demand_three_printed : (w l : List ℕ) → DemandThreePrinted w l
unfolding reply_further shortened
demand_three_printed w l readable plan =
    let for_list : printed (input_of w l) ≡ shortened w l = rw (record_opened w l readable, reply_further) in
    demand_three_of most_unmarked w l most_steps (λ t m. printed (input_of w l) ≡ reported t w l m) readable plan readable.few for_list

-- and what is printed for the bytes read is what is printed for the whole input
pub printed_for_all : (whole bytes : List ℕ) (input : Input) → HasRead 0 1 bytes input → ReadFrom whole bytes input
    → printed (take input.count bytes) ≡ printed whole
printed_for_all whole bytes input has reads = reply_to_all 0 refusal_line _ whole bytes input has reads
