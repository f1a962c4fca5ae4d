-- `put_task` meets its contract: its sections in turn, and what is left. Assumes nothing.
use mathlib.Core.Path.{refl, ap}
use Rattle.std.proofs.Common.{rules}
use Rattle.layout.proofs.WalkLaws.{task_goes, laid_all}
use Rattle.layout.proofs.sections.put_task.Goals as goal

pub returns : goal.returns
returns c =
    let sheet = c.args.sheet.now in
    let goal = c.goal-goal.ensures in
    let sections = task_goes sheet c.domains_at.ensures c.start_at.ensures.0 (ap (λ g. g.at) goal) (ap (λ g. g.end) goal) c.section.ensures.goes c.section-2.ensures.goes c.section-3.ensures.goes c.section-4.ensures.goes c.section-5.ensures.goes c.actions.ensures.goes in
    laid_all sheet refl refl sections c.rest.ensures.puts (search rules)
