-- `pass` meets its contract: only a line end ends a comment. Assumes nothing.
use borrow.Author.Tests.{eq-eqb, ne_eqb}
use Rattle.text.proofs.ReaderLaws.{passes_line_end, passes_on}
use Rattle.text.proofs.reader.Reader.pass.Goals as goal

pub returns-then-byte-eq-LINE_END : goal.returns-then-byte-eq-LINE_END
returns-then-byte-eq-LINE_END c = λ ws. rw c.next_line.ensures (passes_line_end _ _ _ ws (eq-eqb _ _ c.if-byte-eq-LINE_END.true))

pub returns : goal.returns
returns c = λ ws. passes_on _ _ _ ws (ne_eqb _ _ c.if-byte-eq-LINE_END.false)
