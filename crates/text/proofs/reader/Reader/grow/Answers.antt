-- `grow` meets its contract: a byte that is no digit, and a number that fits no word, leave no word. Assumes nothing.
use Rattle.std.specs.Prelude.{Ok, Err}
use Rattle.std.proofs.result.Match.{err_is}
use Rattle.text.proofs.ReaderLaws.{grows_to}
use Rattle.text.proofs.reader.Reader.grow.Goals as goal

pub returns-in_err-grown : goal.returns-in_err-grown
returns-in_err-grown c = λ ws. rw (err_is _ _ c.from_residual.ensures.1) (grows_to _ _ _ ws c.requires _ _ c.with_digit.ensures (Err _) c.in_err-grown.ensures.value)

pub returns : goal.returns
returns c = λ ws. grows_to _ _ _ ws c.requires _ _ c.with_digit.ensures (Ok _) c.in_ok-grown.ensures.value
