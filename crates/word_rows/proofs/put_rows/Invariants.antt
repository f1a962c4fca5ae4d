-- `put_rows` meets its contract. The loop's invariant: what is put, and the lines of the words left, are the lines of all words. Assumes nothing.
use Prim.Native.Nat.{ℕ}
use mathlib.Core.Path.{◌≡◌}
use mathlib.Core.List.{List, ◌++◌}
use Rattle.std.specs.Slice.Iter.{chunks_rest, chunks_size}
use Rattle.lines.specs.Puts.{Puts}
use Rattle.word_rows.specs.Rows.{rows}
use Rattle.word_rows.proofs.put_rows.Given as goal

abbrev pub invariant-loop-row : goal.invariant-loop-row
invariant-loop-row l =
    (text : List ℕ)
    × (chunks_size l.row-iterator ≡ 10)
    × Puts text l.initial.page l.page
    × (text ++ rows (chunks_rest l.row-iterator) ≡ rows l.words)
