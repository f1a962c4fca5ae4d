-- `all_chosen` meets its contract. Assumes nothing.
use native.Mathlib.Omega.{arith}
use Rattle.search.proofs.BestLaws.{some_bit, all_ones}
use Rattle.search.proofs.best.all_chosen.Goals as goal

pub overflow_sub-result : goal.overflow_sub-result
overflow_sub-result c = omega (arith, some_bit c.args.count c.requires)

pub returns : goal.returns
returns c = all_ones _ c.requires
