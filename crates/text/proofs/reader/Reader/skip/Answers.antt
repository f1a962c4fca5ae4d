-- `skip` meets its contract: a byte that is neither a line end nor a comment's beginning nor blank begins a field. Assumes nothing.
use mathlib.Core.Path.{sym, ◌∙◌}
use borrow.Author.Tests.{eq-eqb, ne_eqb}
use Rattle.text.proofs.ReaderLaws.{skips_line_end, skips_comment, skips_blank, skips_into_field}
use Rattle.text.proofs.reader.Reader.skip.Goals as goal

pub returns-then-byte-eq-LINE_END : goal.returns-then-byte-eq-LINE_END
returns-then-byte-eq-LINE_END c = λ ws. rw c.next_line.ensures (skips_line_end _ _ _ ws (eq-eqb _ _ c.if-byte-eq-LINE_END.true))

pub returns-then-byte-eq-COMMENT : goal.returns-then-byte-eq-COMMENT
returns-then-byte-eq-COMMENT c = λ ws. skips_comment _ _ _ ws (ne_eqb _ _ c.if-byte-eq-LINE_END.false) (eq-eqb _ _ c.if-byte-eq-COMMENT.true)

pub returns-then-blank : goal.returns-then-blank
returns-then-blank c = λ ws. skips_blank _ _ _ ws (ne_eqb _ _ c.if-byte-eq-LINE_END.false) (ne_eqb _ _ c.if-byte-eq-COMMENT.false) (sym c.blank.ensures ∙ c.if-blank.true)

pub grow-requires : goal.grow-requires
grow-requires c = (simp (ne_eqb _ _ c.if-byte-eq-LINE_END.false, ne_eqb _ _ c.if-byte-eq-COMMENT.false) (sym c.blank.ensures ∙ c.if-blank.false))

pub returns : goal.returns
returns c = λ ws. skips_into_field _ _ _ ws (simp (ne_eqb _ _ c.if-byte-eq-LINE_END.false, ne_eqb _ _ c.if-byte-eq-COMMENT.false) (sym c.blank.ensures ∙ c.if-blank.false)) _ (c.grow.ensures ws)
