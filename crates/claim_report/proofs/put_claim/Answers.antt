-- `put_claim` meets its contract: a line for each case of a claim. Assumes nothing.
use lib.Dec.{lit≤}
use Rattle.claim_report.proofs.LicensedLaws.{claim_put}
use Rattle.claim_report.proofs.put_claim.Goals as goal

pub returns-in-Least : goal.returns-in-Least
returns-in-Least c =
    let put = c.put_line.ensures in
    claim_put c.in-Least.is put.puts (put.short_line (lit≤ tt) (lit≤ tt))

pub returns-in-Irreducible : goal.returns-in-Irreducible
returns-in-Irreducible c =
    let put = c.put_line-in-Irreducible.ensures in
    claim_put c.in-Irreducible.is put.puts (put.short_line (lit≤ tt) (lit≤ tt))

pub returns-in-Open : goal.returns-in-Open
returns-in-Open c =
    let put = c.put_line-in-Open.ensures in
    claim_put c.in-Open.is put.puts (put.short_line (lit≤ tt) (lit≤ tt))
