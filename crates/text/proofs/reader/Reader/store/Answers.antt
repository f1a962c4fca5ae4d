-- `store` meets its contract: there is room for the word, or there is none. Assumes nothing.
use Rattle.text.proofs.ReaderLaws.{stores_room, stores_none}
use Rattle.text.proofs.reader.Reader.store.Goals as goal

pub returns-then-words-self : goal.returns-then-words-self
returns-then-words-self c = stores_none _ _ _ _ c.ranges.value.fits c.if-words-self.true

pub returns : goal.returns
returns c = stores_room _ _ _ _ c.ranges.value.fits c.if-words-self.false
