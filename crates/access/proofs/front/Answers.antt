-- `front` meets its contract: a part that is as long as the whole is the whole. Assumes nothing.
use native.Mathlib.Omega.{arith}
use mathlib.Core.Path.{sym}
use lib.Seq.{length-take-le, take_all}
use Rattle.access.proofs.front.Goals as goal

pub slice_bounds-result-end : goal.slice_bounds-result-end
slice_bounds-result-end g c = sym (length-take-le _ _ (omega (arith, c.if-n-elements.true)))

pub returns-else-n-elements : goal.returns-else-n-elements
returns-else-n-elements g c = sym (take_all _ _ c.if-n-elements.false)
