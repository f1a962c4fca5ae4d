-- `write_words` meets its contract. The loop's invariant: with the words that are left still to be copied, the words are those of all. Assumes nothing.
use Prim.Native.Nat.{◌+◌, ◌-◌}
use mathlib.Core.Path.{◌≡◌}
use lib.Seq.{sets}
use Rattle.sheet.specs.Decode.{table}
use Rattle.sheet.specs.Layout.{word}
use Rattle.sheet_writer.proofs.words.write_words.Given as goal

abbrev pub invariant-loop-k : goal.invariant-loop-k
invariant-loop-k l =
    sets l.sheet (l.at + l.k) (table (λ j. word l.words (l.from + j)) l.k (l.n - l.k)) ≡ sets l.initial.sheet l.at (table (λ j. word l.words (l.from + j)) 0 l.n)
