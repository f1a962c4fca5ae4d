-- `trial` meets its contract: the walk of the rest, with the step struck and counted. Assumes nothing.
use Prim.Native.Nat.{◌<◌, ◌≤◌}
use lib.ListN.{length}
use Rattle.trial.proofs.TriedLaws.{tries_front}
use Rattle.std.proofs.Common.{rules}
use Rattle.trial.proofs.trial.Goals as goal

pub returns : goal.returns
returns c =
    let inside : c.args.i < length c.args.flags = search rules in
    let long : 64 ≤ length c.args.values = search rules in
    tries_front _ _ _ _ _ _ _ _ _ c.put.ensures c.cost.ensures.0 c.new.ensures c.add-first.ensures _ _ _ _
    inside c.requires.i_in_bounds c.walk_rest-struck.ensures c.goal_holds-succeeds.ensures c.requires.readable long
