-- `clashes` meets its contract, by its tests in turn. Assumes nothing.
use mathlib.Core.Path.{sym, ◌∙◌}
use Rattle.conflict.proofs.ClashLaws.{clash_apart, clash_denied, clash_fits}
use Rattle.conflict.proofs.clash.clashes.Goals as goal

pub returns-then-not-first_writes : goal.returns-then-not-first_writes
returns-then-not-first_writes c = clash_apart _ _ _ _ (rw (← c.variable-written.ensures.0) (sym c.first_writes.ensures ∙ c.if-not-first_writes.true))

pub returns-then-denies_some : goal.returns-then-denies_some
returns-then-denies_some c = clash_denied _ _ _ _ _ _ c.assign.ensures c.denies_some.ensures c.if-denies_some.true

pub returns : goal.returns
returns c =
    clash_fits _ _ _ _ _ _ c.assign.ensures c.denies_some.ensures _ _ c.if-denies_some.false c.assign-2.ensures
    (rw (← c.variable-written.ensures.0) c.find_fitting.ensures)
