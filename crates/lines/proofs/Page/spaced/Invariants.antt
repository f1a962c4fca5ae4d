-- `spaced` meets its contract. The loop's invariant: the numbers passed are put, each behind a space. Assumes nothing.
use Prim.Native.Nat.{ℕ}
use mathlib.Core.List.{List}
use lib.ListN.{take}
use Rattle.lines.specs.Puts.{Puts}
use Rattle.std.specs.List.{AllZip}
use Rattle.lines.specs.Lines.{spaced}
use Rattle.lines.proofs.Page.spaced.Given as goal

abbrev pub invariant-loop-number : goal.invariant-loop-number
invariant-loop-number g l = (xs : List ℕ) × AllZip g.T.Into.converts (take l.number-index l.numbers) xs × Puts (spaced xs) l.initial.self l.self
