-- `count` meets its contract: the sum over four words is the sum over the mask's list, which has four. Assumes nothing.
use Rattle.mask.proofs.LengthLaws.{words_length}
use Rattle.mask.proofs.MaskLaws.{ones_of_four}
use Rattle.mask.proofs.Mask.count.Goals as goal

pub returns : goal.returns
returns c =
    let start = c in
    let four = words_length start.args.self _ start.well_formed.0 in
    cc (ones_of_four _ four, c.ones.ensures.0, c.ones-2.ensures.0, c.ones-3.ensures.0, c.ones-4.ensures.0)
