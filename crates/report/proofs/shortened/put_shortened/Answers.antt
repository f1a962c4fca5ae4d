-- `put_shortened` meets its contract: the service over an output that has room for the longest list, and what is printed of its answer. Assumes nothing.
use mathlib.Core.Path.{refl}
use Rattle.report.proofs.ShortenedLaws.{reports_minimal, shortened_report, shortened_refusal}
use Rattle.report.proofs.shortened.put_shortened.Goals as goal

pub returns-in-Ok : goal.returns-in-Ok
returns-in-Ok c =
    let minimises = c.in-Ok.ensures.answer in
    shortened_report _ _ _ _ _ refl minimises _ refl (c.put_report.ensures _ (reports_minimal _ _ _ _ _ refl minimises _ refl))

pub returns-in-Err : goal.returns-in-Err
returns-in-Err c = shortened_refusal _ _ _ _ _ refl c.in-Err.ensures.answer _ refl c.put_refusal.ensures.puts c.put_refusal.ensures.refusal_len_bound
