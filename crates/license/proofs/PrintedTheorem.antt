-- What the program prints of a valid list is a licence: the bytes of a sheet and its list are opened as those, the checks pass them, and the claim and its
-- reduction are those of the service. Assumes nothing.
use Prim.Native.Nat.{ℕ}
use mathlib.Core.Path.{◌≡◌, ◌∙◌}
use mathlib.Core.List.{List}
use lib.ListN.{take}
use Rattle.plan.specs.Limits.{most_steps}
use Rattle.minimal.proofs.DemandThree.{checks_pass}
use Rattle.claim.specs.Between.Computed.{claim_of, licensed_of}
use Rattle.claim.proofs.LicenceTheorem.{licence_of}
use Rattle.records.specs.Bytes.{input_of}
use Rattle.program.specs.Printed.{refusal_line, HasRead, ReadFrom}
use Rattle.program.specs.declared.input.Input.{Input}
use Rattle.program.specs.Reply.{reply_further}
use Rattle.program.proofs.RecordTheorem.{record_opened}
use Rattle.program.proofs.ReplyTheorem.{reply_to_all}
use Rattle.claim_report.specs.Licensed.{licensed}
use Rattle.license.specs.License.{printed}
use Rattle.license.specs.Statement.{MayBeLodgedPrinted}

pub may_be_lodged_printed : (w l : List ℕ) → MayBeLodgedPrinted w l
unfolding reply_further licensed
may_be_lodged_printed w l readable plan =
    let for_list : printed (input_of w l) ≡ licensed w l = rw (record_opened w l readable, reply_further) in
    record {
      claim = claim_of w l;
      left = licensed_of w l;
      licence = licence_of w l readable plan;
      told = for_list ∙ rw (licensed, checks_pass w l readable plan most_steps readable.few);
    }

-- and what is printed for the bytes read is what is printed for the whole input
pub printed_for_all : (whole bytes : List ℕ) (input : Input) → HasRead 0 1 bytes input → ReadFrom whole bytes input
    → printed (take input.count bytes) ≡ printed whole
printed_for_all whole bytes input has reads = reply_to_all 0 refusal_line _ whole bytes input has reads
