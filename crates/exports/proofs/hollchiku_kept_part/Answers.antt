-- `hollchiku_kept_part` meets its contract: the part that is shown is copied. Assumes nothing.
use mathlib.Core.Path.{◌∙◌}
use Rattle.exports.proofs.hollchiku_kept_part.Goals as goal

pub returns : goal.returns
returns c =
    let kept = c.kept_part-kept.ensures in
    let writes = c.write_front.ensures in
    record { part = writes.words ∙ rw kept; written = writes.written ∙ rw kept }
