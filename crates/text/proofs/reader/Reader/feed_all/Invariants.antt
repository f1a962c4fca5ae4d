-- `feed_all` meets its contract. The loop's invariant: the bytes passed have been read. Assumes nothing.
use lib.ListN.{take}
use Rattle.std.specs.Prelude.{Ok}
use Rattle.text.specs.Between.Reading.{Reads}
use Rattle.text.proofs.reader.Reader.feed_all.Given as goal

abbrev pub invariant-loop-byte : goal.invariant-loop-byte
invariant-loop-byte l = Reads l.initial.reader l.initial.words (take l.byte-index l.bytes) (Ok l.reader) l.words
