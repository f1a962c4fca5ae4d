-- `write_counted` meets its contract: an answer, and a number behind it. Assumes nothing.
use mathlib.Core.Path.{◌∙◌}
use Rattle.std.proofs.Math.Option.{none, some}
use Rattle.refusal.specs.Refusal.{told_refusal}
use Rattle.lent.proofs.StoredLaws.{counted_written}
use Rattle.lent.proofs.write_counted.Goals as goal

pub returns-in-Ok : goal.returns-in-Ok
returns-in-Ok c = c.put.ensures ∙ rw (c.in-Ok.is, c.write_pair.ensures) (counted_written c.args.out.now none c.in-Ok.count)

pub returns-in-Err : goal.returns-in-Err
returns-in-Err c = c.put-in-Err.ensures ∙ rw (c.in-Err.is, c.write_verdict.ensures) (counted_written c.args.out.now (some (told_refusal c.in-Err.refusal)) 0)
