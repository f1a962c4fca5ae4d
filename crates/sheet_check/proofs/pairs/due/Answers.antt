-- `due` meets its contract, by whether the pair is the first. Assumes nothing.
use Rattle.sheet.proofs.PairLaws.{due_first, due_later}
use mathlib.Core.Path.{◌∙◌, sym}
use Rattle.sheet_check.proofs.pairs.due.Goals as goal

pub returns-then-k-eq0 : goal.returns-then-k-eq0
returns-then-k-eq0 c = c.pairs_end.ensures.0 ∙ sym (due_first _ _ c.if-k-eq0.true)

pub returns : goal.returns
returns c = rw (due_later _ _ c.if-k-eq0.false, c.offset.ensures.0, c.size.ensures.0)
