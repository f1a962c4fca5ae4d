-- `push` meets its contract, by whether there is room. Assumes nothing.
use native.Mathlib.Omega.{arith}
use Prim.Native.Nat.{◌<◌}
use Rattle.packed_state.specs.Between.Chosen.{most_choices}
use Rattle.choice_rows.proofs.ChoiceMemoryLaws.{memory_full, memory_next, memory_more, memory_added}
use Rattle.choice_rows.proofs.rows.Choices.push.Goals as goal

pub returns-then-self-eq-MOST-clause-adds : goal.returns-then-self-eq-MOST-clause-adds
returns-then-self-eq-MOST-clause-adds c = rw (← c.self.view_is) (memory_full _ _ c.self.invariant c.if-self-eq-MOST.true _ _)

pub note-requires : goal.note-requires
note-requires c =
    let some : c.self.inside.count < most_choices = omega (arith, c.self.invariant.within, c.if-self-eq-MOST.false) in
    memory_next _ _ c.self.invariant some _

pub invariant_of-self : goal.invariant_of-self
invariant_of-self c =
    let some : c.self.inside.count < most_choices = omega (arith, c.self.invariant.within, c.if-self-eq-MOST.false) in
    memory_more _ _ c.self.invariant some _

pub returns-clause-adds : goal.returns-clause-adds
returns-clause-adds c =
    let some : c.self.inside.count < most_choices = omega (arith, c.self.invariant.within, c.if-self-eq-MOST.false) in
    rw (← c.self.view_is, ← c.note.ensures) (memory_added _ _ c.self.invariant some _ _)
