-- `section` meets its contract: a comment, and the lines of a part. Assumes nothing.
use mathlib.Core.Path.{refl}
use Rattle.layout.proofs.WalkLaws.{goes_section}
use Rattle.layout.proofs.sections.Walk.section.Goals as goal

pub returns : goal.returns
returns c =
    record {
      same = c.part.ensures.same;
      goes = goes_section (record { title = c.args.title.now; end = c.args.end }) refl refl c.put_comment.ensures c.part.ensures;
    }
