-- `add` meets its contract: each return is a case of one step more. Assumes nothing.
use mathlib.Core.Path.{sym}
use native.Mathlib.Omega.{arith}
use Rattle.tally.proofs.TallyLaws.{full_of_steps, full_of_cost, counted}
use Rattle.tally.proofs.Tally.add.Goals as goal

pub returns-then-self-ge-STEPS : goal.returns-then-self-ge-STEPS
returns-then-self-ge-STEPS c = sym (full_of_steps _ _ c.if-self-ge-STEPS.true)

pub returns-then-self-gt-COST : goal.returns-then-self-gt-COST
returns-then-self-gt-COST c = sym (full_of_cost _ _ (omega (arith, c.if-self-gt-COST.true)))

pub returns-then-self-cost : goal.returns-then-self-cost
returns-then-self-cost c = sym (full_of_cost _ _ (omega (arith, c.if-self-cost.true)))

pub returns : goal.returns
returns c = sym (counted _ _ c.if-self-ge-STEPS.false (omega (arith, c.if-self-cost.false, c.if-self-gt-COST.false)))
