-- `tally_of` meets its contract. The loop's invariant: the kept steps from i on, added to the tally, make the whole tally. Assumes nothing.
use mathlib.Core.Path.{◌≡◌}
use Rattle.reduced.specs.Between.Tallied.{tallied}
use Rattle.reduced.proofs.TalliedLaws.{tallied_from}
use Rattle.reduced.proofs.tallied.tally_of.Given as goal

abbrev pub invariant-loop-i : goal.invariant-loop-i
invariant-loop-i l = tallied_from l.words l.plan l.flags l.i l.tally ≡ tallied l.words l.plan l.flags
