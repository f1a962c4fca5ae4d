-- `of_steps` meets its contract: the flags of the steps are copied over as many that are down. Assumes nothing.
use Rattle.landmark.proofs.PositionLaws.{steps_copied}
use Rattle.landmark.proofs.flags.of_steps.Goals as goal

pub returns : goal.returns
returns c = steps_copied c.args.flags.now _ _ c.copy_from_slice.ensures.after
