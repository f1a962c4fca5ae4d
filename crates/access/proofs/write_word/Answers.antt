-- `write_word` meets its contract. The loop's invariant: with the ones that are left still to be written, the output is that of all the ones; a turn writes the
-- lowest and clears it, so that the word falls. Assumes nothing.
use mathlib.Core.Path.{refl, sym, ◌∙◌}
use native.Mathlib.Omega.{arith}
use lib.Count.{trailing_le}
use Rattle.access.proofs.OnesLaws.{ones_at_few, Turn, turn, all_stored, all_passed}
use Rattle.access.specs.Bits.{word_bits}
use Rattle.std.proofs.Common.{rules}
use Rattle.access.proofs.write_word.Goals as goal

turn-of : (c : goal.After-slice_known-in-loop-rest-1)
    → Turn c.args.from c.loop-rest.rest
turn-of c = turn _ _ c.loop-rest-test.true c.loop-rest.invariant.2

pub loop-rest-init : goal.loop-rest-init
loop-rest-init c = (refl, refl, search rules, refl)

pub overflow_cast-lowest : goal.overflow_cast-lowest
overflow_cast-lowest c = omega (arith, trailing_le word_bits c.loop-rest.rest)

pub overflow_add-from : goal.overflow_add-from
overflow_add-from c = omega (arith, trailing_le word_bits c.loop-rest.rest)

pub overflow_cast-rest : goal.overflow_cast-rest
overflow_cast-rest c = omega (arith, trailing_le word_bits c.loop-rest.rest)

pub overflow_shl-rest : goal.overflow_shl-rest
overflow_shl-rest c = (turn-of c).low

pub overflow_sub-rest : goal.overflow_sub-rest
overflow_sub-rest c = (turn-of c).within

pub overflow_add-to : goal.overflow_add-to
overflow_add-to c =
    let args = c.args in
    omega (arith, c.loop-rest.invariant.1, ones_at_few args.from word_bits args.bits)

pub loop-rest-smaller : goal.loop-rest-smaller
loop-rest-smaller c = (turn-of c).falls

pub loop-rest-preserved : goal.loop-rest-preserved
loop-rest-preserved c =
    let words = c.args.words.now in
    let here = c.loop-rest in (
      cc ((turn-of c).stored words here.out here.to, c.put.ensures, c.get_or.ensures, here.invariant.0),
      (turn-of c).passed here.to ∙ here.invariant.1,
      omega (arith, (turn-of c).falls, here.invariant.2),
      c.put.auto.elements ∙ here.invariant.3,
    )

pub returns : goal.returns
returns c =
    let start = c.args in
    let here = c.loop-rest in (
      sym (all_stored start.from here.rest c.loop-rest-test.false start.words.now here.out here.to) ∙ here.invariant.0,
      sym (all_passed start.from here.rest c.loop-rest-test.false here.to) ∙ here.invariant.1,
    )
