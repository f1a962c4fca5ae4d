-- `put_all` meets its contract. The loop's invariant: storing what is left gives the same elements as storing all, and no length changes.
-- Assumes nothing.
use Rattle.std.proofs.Common.{◌≡◌, length, drop}
use Rattle.std.proofs.lemmas.List.Edits.{sets}
use Rattle.access.proofs.put_all.Given as goal

abbrev pub invariant-loop-i : goal.invariant-loop-i
invariant-loop-i g l = (sets l.elements l.i (drop l.i l.values) ≡ sets l.initial.elements 0 l.values) × (length l.elements ≡ length l.initial.elements)
