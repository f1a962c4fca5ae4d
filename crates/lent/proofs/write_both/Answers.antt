-- `write_both` meets its contract: an answer and two tallies, one behind the other. Assumes nothing.
use Rattle.refusal.specs.Refusal.{told}
use mathlib.Core.Path.{◌∙◌}
use Rattle.lent.proofs.StoredLaws.{both_written}
use Rattle.lent.proofs.write_both.Goals as goal

pub returns : goal.returns
returns c =
    let entry = c.args in let first = c.write_verdict.ensures in let second = c.write_pair.ensures in c.write_pair-2.ensures
    ∙ rw (second, first) (both_written entry.out.now (told entry.verdict) entry.first entry.second)
