-- `action` meets its contract: a comment, and the lines of a part. Assumes nothing.
use mathlib.Core.Path.{refl}
use Rattle.sheet.specs.Layout.{effect_end}
use Rattle.layout.specs.Layout.{action_title}
use Rattle.layout.proofs.WalkLaws.{goes_section, goes_ending}
use Rattle.layout.proofs.sections.Walk.action.Goals as goal

pub returns : goal.returns
returns c =
    let a = c.args.a in
    let title = action_title a in
    let part = goes_section (record { title = title; end = c.action_end.result }) refl refl c.put_action_comment.ensures c.part.ensures in
    record { same = c.part.ensures.same; goes = goes_ending (effect_end c.args.sheet.now a) title c.action_end.ensures part }
