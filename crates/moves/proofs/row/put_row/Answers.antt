-- `put_row` meets its contract: its words are stored one after the other. Assumes nothing.
use mathlib.Core.Path.{◌∙◌}
use Rattle.mask.proofs.MaskLaws.{digit_told}
use Rattle.moves.proofs.RowLaws.{row_laid}
use Rattle.moves.proofs.row.put_row.Goals as goal

pub returns : goal.returns
returns c =
    let entry = c.args in
    row_laid entry.rows.now _ _ _ _ _ _ entry.at _ _ _ entry.is_kept entry.is_marked entry.so_far
    c.put.ensures
    (c.from.ensures ∙ digit_told entry.is_kept)
    c.put-2.ensures
    (c.from-2.ensures ∙ digit_told entry.is_marked)
    c.put-3.ensures
    c.put_tally.ensures
    c.put_tally-2.ensures
    c.put_tally-3.ensures
