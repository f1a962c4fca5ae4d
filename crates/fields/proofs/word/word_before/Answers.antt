-- `word_before` meets its contract: a byte of the class of what ends a word is that end. Assumes nothing.
use mathlib.Core.Path.{refl, ◌∙◌}
use Rattle.fields.proofs.ClassLaws.{same_end}
use Rattle.fields.proofs.LineLaws.{begins_same}
use Rattle.fields.proofs.word.word_before.Goals as goal

pub returns-in-Some : goal.returns-in-Some
returns-in-Some c =
    (refl, begins_same _ _ c.in-Some.ensures.cases.0 (rw (c.classify.ensures, c.class.ensures) at c.if-eq.ensures ∙ same_end _ _))
