-- `read` meets its contract. The loop's invariant: what has been read lies inside the bytes that are lent, whose length does not change. The measure is how many bytes
-- may still be read: it falls, since a turn that goes on has read all that it asked for, and it asked for more. Assumes nothing.
use Rattle.std.proofs.Common.{length, ◌-◌, ◌≤◌}
use Rattle.records.specs.Between.Needed.{most_bytes}
use Rattle.program.proofs.input.read.Given as goal

abbrev pub invariant-loop-have : goal.invariant-loop-have
invariant-loop-have g l = l.have ≤ length l.bytes

abbrev pub decreases-loop-have : goal.decreases-loop-have
decreases-loop-have g l = most_bytes l.further l.beyond - l.have
