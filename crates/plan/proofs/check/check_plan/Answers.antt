-- `check_plan` meets its contract: nothing is asked besides. Assumes nothing.
use mathlib.Core.Path.{sym}
use mathlib.Core.List.{[]}
use Rattle.refusal.proofs.CheckLaws.{answer_nothing}
use Rattle.plan.proofs.check.check_plan.Goals as goal

pub returns : goal.returns
returns c = c.check_lodged.ensures.checked [] (sym answer_nothing)
