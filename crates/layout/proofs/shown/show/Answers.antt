-- `show` meets its contract, by how many bytes there are. Assumes nothing.
use Rattle.lines.proofs.PutsLaws.{puts_nothing, puts_as}
use Rattle.layout.proofs.ShownLaws.{shown_long, shown_broken, shown_whole}
use Rattle.layout.proofs.shown.show.Goals.{else-bytes-via-then-bytes+else-bytes-eq0, else-bytes-via-else-bytes}
use Rattle.layout.proofs.shown.show.Goals as goal

pub returns-then-bytes-eq0 : goal.returns-then-bytes-eq0
returns-then-bytes-eq0 c = puts_as (shown_whole _ c.if-bytes.true c.if-bytes-eq0.true) c.put_bytes.ensures

pub returns-else-bytes : goal.returns-else-bytes
returns-else-bytes c =
    elim c.else-bytes.branch [
      | else-bytes-via-then-bytes+else-bytes-eq0 w ↦ puts_as (shown_broken _ w.if-bytes.true w.if-bytes-eq0.false) (puts_nothing _)
      | else-bytes-via-else-bytes w ↦ puts_as (shown_long _ w.if-bytes.false) (puts_nothing _)
    ]
