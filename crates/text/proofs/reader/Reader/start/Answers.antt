-- `start` meets its contract. Assumes nothing.
use Rattle.text.proofs.ReaderLaws.{starts}
use Rattle.text.proofs.reader.Reader.start.Goals as goal

pub returns : goal.returns
returns c = starts
