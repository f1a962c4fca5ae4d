-- `try_step` meets its contract: an unknown action, a step that is done, or one that can't be. Assumes nothing.
use Rattle.step.proofs.StepLaws.{tries_unknown, tries_fails, tries_done}
use Rattle.step.proofs.one.try_step.Goals as goal

pub returns-then-actions-action : goal.returns-then-actions-action
returns-then-actions-action c = tries_unknown _ _ _ _ c.actions.ensures.0 c.if-actions-action.true

pub returns-then-advance : goal.returns-then-advance
returns-then-advance c = let known = c in tries_done _ _ _ _ _ _ known.actions.ensures.0 known.if-actions-action.false c.advance.ensures c.if-advance.true

pub returns : goal.returns
returns c = let known = c in tries_fails _ _ _ _ _ _ known.actions.ensures.0 known.if-actions-action.false c.advance.ensures c.if-advance.false
