-- `landmarks` meets its contract: one pass more, or the last changed nothing, or there were as many as steps. Assumes nothing.
use Rattle.landmark.proofs.FlagLaws.{searching_start, searching_more, searching_settled, searching_done}
use Rattle.landmark.proofs.PositionLaws.{same_flags}
use Rattle.landmark.proofs.MarkLaws.{too_long}
use mathlib.Core.Path.{refl, sym, ◌∙◌}
use Rattle.landmark.proofs.flags.landmarks.Goals as goal

pub returns-then-n-gt-STEPS : goal.returns-then-n-gt-STEPS
returns-then-n-gt-STEPS c = too_long _ _ _ c.if-n-gt-STEPS.true

pub loop-init : goal.loop-init
loop-init c = searching_start _ _ _ _ refl c.if-n-gt-STEPS.false c.ends-flags.ensures

pub returns-then-eq : goal.returns-then-eq
returns-then-eq c = searching_settled _ _ _ _ _ _ c.loop.invariant c.pass_along-next.ensures _ _ (λ up. same_flags _ _ (sym c.eq.ensures ∙ up)) c.if-eq.true c.of_steps.ensures

pub loop-preserved : goal.loop-preserved
loop-preserved c = searching_more _ _ _ _ _ _ c.loop.invariant c.pass_along-next.ensures c.loop-test.true

pub returns : goal.returns
returns c = searching_done _ _ _ _ _ _ c.loop.invariant c.loop-test.false c.of_steps-2.ensures
