-- `finish` meets its contract, by what its calls do. Assumes nothing.
use mathlib.Core.Path.{ap}
use Rattle.reduced.proofs.finish.finish.Goals as goal

pub returns : goal.returns
returns c =
    record {
      costs = ap (λ t. t.cost) c.tally_of-tally.ensures;
      steps = c.count-steps.ensures;
      told_by = c.mask_of-mask.ensures;
      written = c.write_kept.ensures.0;
    }
