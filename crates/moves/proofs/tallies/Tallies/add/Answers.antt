-- `add` meets its contract, by whether the step is kept. Assumes nothing.

use Rattle.moves.proofs.tallies.Tallies.add.Goals as goal

pub returns-then-is_kept : goal.returns-then-is_kept
returns-then-is_kept c = rw (c.if-is_kept.true, c.add.ensures, c.add-then-is_kept.ensures)

pub returns : goal.returns
returns c = rw (c.if-is_kept.false, c.add-2.ensures, c.add-3.ensures)
