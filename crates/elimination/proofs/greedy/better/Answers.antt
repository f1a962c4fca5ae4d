-- `better` meets its contract: a trial that fails, a first success, one that strikes more, or one that does not. Assumes nothing.
use mathlib.Core.Path.{ap}
use Rattle.std.specs.Ordering.{is_lt}
use Rattle.elimination.proofs.BetterLaws.{fails, first_success, more_success, no_more_success}
use Rattle.elimination.proofs.greedy.better.Goals as goal

pub returns-then-is_lower : goal.returns-then-is_lower
returns-then-is_lower c = more_success _ _ c.if-tried.true c.if-best.true _ c.is_lower.ensures c.if-is_lower.true

pub returns-then-best : goal.returns-then-best
returns-then-best c = no_more_success _ _ c.if-tried.true c.if-best.true _ c.is_lower.ensures c.if-is_lower.false

pub returns-then-tried : goal.returns-then-tried
returns-then-tried c = first_success _ _ c.if-tried.true c.if-best.false

pub returns : goal.returns
returns c = fails _ _ c.if-tried.false
