-- `write_rows` meets its contract. The loop's invariant: from the next step on the walk writes what the whole walk writes. Assumes nothing.
use native.Mathlib.Omega.{arith}
use mathlib.Core.Path.{◌∙◌}
use Rattle.moves.proofs.RowLaws.{walking_start, walking_low, walking_more, walking_over}
use Rattle.moves.proofs.rows.write_rows.Goals as goal

pub loop-i-init : goal.loop-i-init
loop-i-init c = walking_start _ _ _ _ _ _ c.new-so_far.ensures

pub put_row-requires : goal.put_row-requires
put_row-requires c = omega (arith, walking_low _ _ _ _ _ c.requires _ _ _ c.loop-i.invariant)

pub overflow_mul-i : goal.overflow_mul-i
overflow_mul-i c = omega (arith, walking_low _ _ _ _ _ c.requires _ _ _ c.loop-i.invariant)

pub loop-i-preserved : goal.loop-i-preserved
loop-i-preserved c =
    let readable = c.requires in
    let turn = c.loop-i in
    walking_more _ _ _ _ _ readable _ _ _ turn.invariant c.loop-i-test.true _ _ _ _ _
    c.cost-price.ensures.0
    c.bit-is_kept.ensures
    c.bit.ensures
    c.add-so_far.ensures
    c.put_row.ensures
    (c.put_row.auto.rows ∙ turn.invariant.room)

pub returns : goal.returns
returns c = walking_over _ _ _ _ _ c.requires _ _ _ c.loop-i.invariant c.loop-i-test.false
