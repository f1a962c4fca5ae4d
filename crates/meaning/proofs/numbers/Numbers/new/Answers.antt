-- `new` meets its contract: what the tests let pass is small. Assumes nothing.
use mathlib.Core.Path.{sym, ◌∙◌}
use native.Mathlib.Omega.{arith}
use Rattle.meaning.proofs.SectionLaws.{fit_small}
use Rattle.meaning.proofs.numbers.Numbers.new.Goals as goal

pub invariant_of-result : goal.invariant_of-result
invariant_of-result c = fit_small _ (omega arith) (sym c.variables_fit.ensures ∙ c.if-not-variables_fit.false)
