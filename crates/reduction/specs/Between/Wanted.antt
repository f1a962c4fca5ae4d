-- The facts that are wanted behind a step of a plan, of which some steps are flagged that every valid reduction keeps.
-- That they hold there in every valid reduction is `wanted_holds` of proofs/turns/WantedLaws: the search's striking cut
-- rests on it. Assumes nothing.
use Rattle.std.specs.Prelude.{Bool, false, not, ◌&&◌, ◌||◌, List, [], ◌∷◌, get_or, drop, eqb}
use Rattle.sas.specs.Task.{Fact, Assignment, Action}
use Rattle.sas.specs.Plan.{written, needed}
use Rattle.sas.specs.Conflict.{some_of}
use Rattle.reduction.specs.Reduction.{Reduction}

unfoldable pub same_fact : Fact → Fact → Bool
same_fact f g = eqb f.variable g.variable && eqb f.value g.value

-- a fact is one of an assignment's
unfoldable pub has : Assignment → Fact → Bool
has q f = some_of (same_fact f) q

-- a fact is wanted before the steps p, of which m flags some: a flagged step needs it, or the goal does, before any
-- step writes it
unfoldable pub wanted : Assignment → List Action → Reduction → Fact → Bool
wanted goal [] m f = has goal f
wanted goal (a ∷ p) m f = get_or m 0 false && has (needed a) f || not (has (written a) f) && wanted goal p (drop 1 m) f
