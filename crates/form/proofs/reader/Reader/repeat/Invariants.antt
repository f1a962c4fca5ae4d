-- `repeat` meets its contract. The loop's invariant: going on with the lines that are left finds what going on with all of them found, with the tape that
-- was there where each call of the step keeps it. Assumes nothing.
use mathlib.Core.List.{List}
use Rattle.form.specs.Between.Form.{Due}
use Rattle.form.specs.Between.Reading.{AlwaysFindsSame, AlwaysReads}
use Rattle.form.proofs.ReadsLaws.{LeftSame, Left}
use Rattle.form.proofs.reader.Reader.repeat.Given as goal

abbrev pub invariant-loop : goal.invariant-loop
invariant-loop g l = ((ds : List Due) → AlwaysFindsSame ds (goal.F-post g l.step) → LeftSame l.counter l.n ds l.initial.self l.self)
    × ((ds : List Due) → AlwaysReads ds (goal.F-post g l.step) → Left l.counter l.n ds l.initial.self l.self)
