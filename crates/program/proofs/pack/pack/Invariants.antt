-- `pack` meets its contract. The loop's invariant: the bytes of the words passed are put. Assumes nothing.
use lib.ListN.{take}
use Rattle.lines.specs.Puts.{Puts}
use Rattle.records.specs.Bytes.{all_bytes}
use Rattle.program.proofs.pack.pack.Given as goal

abbrev pub invariant-loop-word : goal.invariant-loop-word
invariant-loop-word l = Puts (all_bytes (take l.word-index l.words)) l.initial.page l.page
