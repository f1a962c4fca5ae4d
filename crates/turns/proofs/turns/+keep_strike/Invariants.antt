-- The measure of both turns: the number of unflagged steps left, which falls at each call. Assumes nothing.
use Rattle.std.proofs.Common.{length, ◌-◌}
use Rattle.turns.proofs.turns.+keep_strike.Given as goal

abbrev pub decreases-keep : goal.decreases-keep
decreases-keep l = length l.choices.now - l.d

abbrev pub decreases-strike : goal.decreases-strike
decreases-strike l = length l.choices.now - l.d
