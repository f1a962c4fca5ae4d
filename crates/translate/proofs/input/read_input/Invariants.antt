-- `read_input` meets its contract: it reads on while there is room and a read gives bytes, and each that does leaves fewer that
-- may still be read. Assumes nothing.
use Rattle.std.proofs.Common.{length, ◌-◌, ◌≤◌}
use Rattle.translate.proofs.input.read_input.Given as goal

abbrev pub invariant-loop-have : goal.invariant-loop-have
invariant-loop-have g l = l.have ≤ length l.bytes

abbrev pub decreases-loop-have : goal.decreases-loop-have
decreases-loop-have g l = length l.bytes - l.have
