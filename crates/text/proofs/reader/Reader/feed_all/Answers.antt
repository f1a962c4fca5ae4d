-- `feed_all` meets its contract, byte by byte. Assumes nothing.
use Rattle.std.proofs.result.Match.{err_is}
use Rattle.text.proofs.ReaderLaws.{reads_to_stop}
use Rattle.text.proofs.reader.Reader.feed_all.Goals as goal

pub returns-in_err-reader : goal.returns-in_err-reader
returns-in_err-reader c = rw (err_is _ _ c.from_residual.ensures.1) (reads_to_stop _ _ _ _ _ _ c.loop-byte.byte-index c.loop-byte-test.true c.loop-byte.invariant _ c.in_err-reader.ensures)
