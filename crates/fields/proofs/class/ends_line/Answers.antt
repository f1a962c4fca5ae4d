-- `ends_line` meets its contract: a byte of the class of a line end is one. Assumes nothing.
use mathlib.Core.Path.{◌∙◌}
use Rattle.fields.specs.declared.word.End.TheVariants.{LineEnd}
use Rattle.fields.specs.Between.Fields.{class_of}
use Rattle.fields.proofs.ClassLaws.{same_end}
use Rattle.fields.proofs.class.ends_line.Goals as goal

pub returns : goal.returns
unfolding class_of
returns c = c.eq.ensures ∙ rw c.classify.ensures (same_end c.args.byte LineEnd)
