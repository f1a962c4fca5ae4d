-- `put_refusal` meets its contract: a line of a word and two numbers. Assumes nothing.
use lib.Dec.{lit≤}
use Rattle.program.proofs.PrintedLaws.{refusal_printed, refusal_fits}
use Rattle.program.proofs.output.put_refusal.Goals as goal

pub returns : goal.returns
returns c =
    let put = c.put_line.ensures in
    let numbered = c.number.ensures in
    let placed = c.place.ensures in
    record {
      puts = refusal_printed _ numbered placed put.puts;
      refusal_len_bound = refusal_fits _ numbered placed (put.short_line (lit≤ tt) (lit≤ tt));
    }
