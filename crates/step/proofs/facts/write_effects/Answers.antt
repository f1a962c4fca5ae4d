-- `write_effects` meets its contract: conditions are read in a copy of the state, and effects without conditions all act. Assumes nothing.
use mathlib.Core.Path.{refl, sym, ◌∙◌, ap}
use Rattle.sas.specs.Plan.{assign}
use Rattle.step.proofs.FailingLaws.{acted_beside, all_acting}
use Rattle.step.proofs.facts.write_effects.Goals as goal

pub returns-then-effects : goal.returns-then-effects
returns-then-effects c = acted_beside _ _ _ _ _ _ _ refl c.requires c.put_all.ensures c.front.ensures (rw (← c.each.ensures) c.write_acting.ensures)

pub returns : goal.returns
returns c = rw (← c.facts.ensures) c.assign.ensures ∙ ap (assign _) (sym (all_acting _ _ _ c.if-effects.false))
